use Rattle.std.proofs.Common.{◌∙◌, ℕ, List, Option, sym, ap, subst, Contains}
use Rattle.link_streams.specs.Held.{number_at, packets_held}
use Rattle.link_streams.specs.Streams.{IsStream, Stream, has_place}
use Rattle.link_streams.proofs.HeldLaws.{IsStream-held, number-found, number-none}
use Rattle.link_streams.proofs.stream.Stream.at.Goals as goal

pub returns-in-Some-clause-stream : goal.returns-in-Some-clause-stream
returns-in-Some-clause-stream c =
    let Is : Stream → Type 0 = IsStream in
    subst Is c.self.view_is (IsStream-held c.self.inside.link c.self.inside.packets.items c.self.inside.early.items c.self.inside.late.entries c.self.inside.generations c.self.invariant)

pub returns-in-None-clause-stream : goal.returns-in-None-clause-stream
returns-in-None-clause-stream c =
    let Is : Stream → Type 0 = IsStream in
    subst Is c.self.view_is (IsStream-held c.self.inside.link c.self.inside.packets.items c.self.inside.early.items c.self.inside.late.entries c.self.inside.generations c.self.invariant)

pub returns-in-Some-clause-found : goal.returns-in-Some-clause-found
returns-in-Some-clause-found c =
    let packets = c.self.inside.packets.items in
    let number = ap (λ (early : List (Option ℕ)). number_at early c.self.inside.late.entries c.args.place) (sym c.deref.ensures.value) ∙ sym c.number_of.ensures ∙ c.in-Some.is in
    let found = number-found c.self.inside.link packets c.self.inside.early.items c.self.inside.late.entries c.self.inside.generations c.self.invariant c.args.place c.in-Some.number c.index.result.now number in
    subst (λ (stream : Stream). Contains stream.packets c.index.result.now) c.self.view_is (subst (Contains (packets_held packets)) (sym c.index.ensures) found.0)

pub returns-in-None-clause-none : goal.returns-in-None-clause-none
returns-in-None-clause-none c none =
    let number = ap (λ (early : List (Option ℕ)). number_at early c.self.inside.late.entries c.args.place) (sym c.deref.ensures.value) ∙ sym c.number_of.ensures ∙ c.in-None.is in
    ap (λ (stream : Stream). has_place stream.packets c.args.place) (sym c.self.view_is)
    ∙ number-none c.self.inside.link c.self.inside.packets.items c.self.inside.early.items c.self.inside.late.entries c.self.inside.generations c.self.invariant c.args.place number
