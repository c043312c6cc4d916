use Rattle.std.proofs.Common.{◌≡◌, [], length, inl, inr, refl, sym, subst, subst₂, ap, ◌∙◌, arith}
use Rattle.command_steps.specs.Listed.{IsTaken, RefusesBytes}
use Rattle.lif_outside.proofs.CallLaws.{calls_of, calls_weaker}
use Rattle.lif_outside.specs.FileCalls.{ReadsWhole}
use Rattle.top_base.specs.FileReading.{StopsReading, outcome_of}
use Rattle.top_base.specs.declared.reading.FileRefusal.TheVariants as refused
use Rattle.top_base.proofs.Exits.{if_err}
use Rattle.top_base.proofs.InputLaws.{unread}
use Rattle.top_nodes.specs.Files.{stream_path, stream_wanted}
use Rattle.top_nodes.proofs.ReadingLaws.{lost_stream}
use Rattle.top_nodes.proofs.reading.read_stream.Goals as goal

pub returns-in_err-path-clause-lost : goal.returns-in_err-path-clause-lost
returns-in_err-path-clause-lost g c =
    if_err _ c.from_residual.result (outcome_of refused.OutOfMemory) c.from_residual.ensures.1
    (calls_of _ [] (g.met.S.Store.no_calls c.args.store.now) (inr (record { status = refl; line = refl }, refl)))

pub returns-in_err-bytes-clause-lost : goal.returns-in_err-bytes-clause-lost
returns-in_err-bytes-clause-lost g c =
    let path = stream_path c.args.prefix.now c.args.net.now c.args.link in
    let wanted = stream_wanted c.args.prefix.now c.args.net.now c.args.link in
    let limit = c.args.limit in
    let refusal = c.in_err-bytes.field-0.0 in
    let is : c.as_str.result.now ≡ path = c.as_str.ensures.value ∙ c.in_ok-path.ensures in
    if_err _ c.from_residual-in_err-bytes.result (outcome_of refusal) c.from_residual-in_err-bytes.ensures.1
    (calls_weaker _ _ c.in_err-bytes.ensures.refused
    (λ made stop. inl (unread limit (IsTaken wanted) (RefusesBytes wanted) path made refusal (subst (λ path. StopsReading path limit refusal made) is stop))))

pub returns-in_err-stream-clause-lost : goal.returns-in_err-stream-clause-lost
returns-in_err-stream-clause-lost g c =
    let limit = c.args.limit in
    let outcome = c.in_err-stream.field-0.0 in
    let path : c.as_str.result.now ≡ stream_path c.args.prefix.now c.args.net.now c.args.link = c.as_str.ensures.value ∙ c.in_ok-path.ensures in
    if_err _ c.from_residual-in_err-stream.result outcome c.from_residual-in_err-stream.ensures.1
    (calls_weaker _ _ c.in_ok-bytes.ensures.whole (λ made whole.
    inl (lost_stream c.args.prefix.now c.args.net.now c.args.link limit c.deref.result.now made (subst₂ (λ path bytes. ReadsWhole path limit bytes made) path (sym c.deref.ensures.value) whole) outcome c.in_err-stream.ensures.refused)))

pub returns-clause-had : goal.returns-clause-had
returns-clause-had g c =
    let limit = c.args.limit in
    let bytes = c.deref.result.now in
    let path : c.as_str.result.now ≡ stream_path c.args.prefix.now c.args.net.now c.args.link = c.as_str.ensures.value ∙ c.in_ok-path.ensures in
    let size : length bytes ≡ c.len.result = omega (arith, c.len.ensures, c.in_ok-bytes.bytes.ok.0, ap length c.deref.ensures.value) in
    calls_weaker _ _ c.in_ok-bytes.ensures.whole
    (λ made whole. (bytes, subst₂ (λ path bytes. ReadsWhole path limit bytes made) path (sym c.deref.ensures.value) whole, c.in_ok-stream.ensures.packets, size))
