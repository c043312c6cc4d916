-- Calls that read a code, and calls that open.
use Rattle.std.proofs.Common.{◌≡◌, ℕ, Bool, false, List, refl, subst, sym}
use Rattle.std.specs.Prelude.{Option, Some, None, is_some, Ok, Err}
use lib.Dec.{T}
use Rattle.node_program.specs.declared.code.Code.{Code}
use Rattle.open_nodes.specs.NodeCalls.{OpensNode}
use Rattle.open_nodes.specs.SinkCalls.{OpensSink}
use Rattle.open_nodes.specs.declared.call_error.CallError.{CallError}
use Rattle.open_nodes.specs.declared.opening.OpenRefusal.{OpenRefusal}
use Rattle.lif_c.specs.Boxes.{OpensBoxed, OpensBoxedNode, OpensBoxedSink}
use Rattle.lif_c.specs.Calls.{IsOpened, Opens, OpensBytes, OpensOf, ReadsCode}
use Rattle.lif_c.specs.Refusals.{open_status, refusal_of}
use Rattle.lif_c.specs.Statuses.{error_number, ok}
use Rattle.lif_c.specs.declared.opened.Opened.{Opened}
use Rattle.lif_c.specs.declared.opened.Opened.TheVariants as kinds
use Rattle.lif_c.specs.declared.refusal.Refusal.{Refusal}

-- a code is read, and kept
pub reads-code : (same : Type 0) (reads : Code → ℕ → Type 0) (old new : Option Opened) (opened : Opened) (code : Code) (status : ℕ)
    → Some opened ≡ old → new ≡ Some opened → opened ≡ kinds.Code code → reads code status → ReadsCode same reads old new status
reads-code same reads old new opened code status was is of_code read =
    subst (λ (o : Option Opened). ReadsCode same reads o new status) was
    (subst (λ (o : Option Opened). ReadsCode same reads (Some opened) o status) (sym is)
    (subst (λ (o : Opened). ReadsCode same reads (Some o) (Some o) status) (sym of_code) (record { it = code; holds = refl; done = (refl, read) })))

-- a closed handle is given what was opened of bytes, or stays closed
pub opens-bytes : (bytes : List ℕ) (old new : Option Opened) (opened : Opened) (why : Refusal)
    → is_some old ≡ false → OpensBoxed bytes (Ok opened) → new ≡ Some opened → OpensBytes bytes old new why why ok
opens-bytes bytes None new (kinds.Code code) why is opens holds = record { result = Ok code; opens = opens; told = (refl, holds, refl) }
opens-bytes bytes None new (kinds.Node it) why is opens holds = absurd opens
opens-bytes bytes None new (kinds.Sink it) why is opens holds = absurd opens
opens-bytes bytes (Some old) new opened why is opens holds = absurd (subst (λ (b : Bool). T b) is tt)

pub refuses-bytes : (bytes : List ℕ) (old : Option Opened) (why : Refusal) (refusal : OpenRefusal)
    → is_some old ≡ false → OpensBoxed bytes (Err refusal) → OpensBytes bytes old old why (refusal_of refusal) (open_status refusal)
refuses-bytes bytes None why refusal is opens = record { result = Err refusal; opens = opens; told = (refl, refl, refl) }
refuses-bytes bytes (Some old) why refusal is opens = absurd (subst (λ (b : Bool). T b) is tt)

-- something of a code is opened in a closed handle, as far as the other handle holds a code
pub opens-of : (opens : Code → Option Opened → ℕ → Type 0) (old new of : Option Opened) (opened : Opened) (code : Code) (status : ℕ)
    → is_some old ≡ false → Some opened ≡ of → opened ≡ kinds.Code code → opens code new status → Opens opens old new of status
opens-of opens None new of opened code status is holds of_code done =
    subst (λ (o : Option Opened). OpensOf opens o new status) holds (subst (λ (o : Opened). OpensOf opens (Some o) new status) (sym of_code) done)
opens-of opens (Some old) new of opened code status is holds of_code done = absurd (subst (λ (b : Bool). T b) is tt)

pub is-node : (code : Code) (pattern number : ℕ) (new : Option Opened) (opened : Opened)
    → OpensBoxedNode code pattern number (Ok opened) → new ≡ Some opened → IsOpened kinds.Node (OpensNode code pattern number) new ok
is-node code pattern number new (kinds.Code it) opens holds = absurd opens
is-node code pattern number new (kinds.Node it) opens holds = record { result = Ok it; opened = opens; told = (refl, holds) }
is-node code pattern number new (kinds.Sink it) opens holds = absurd opens

pub no-node : (code : Code) (pattern number : ℕ) (old : Option Opened) (why : CallError) → is_some old ≡ false
    → OpensBoxedNode code pattern number (Err why) → IsOpened kinds.Node (OpensNode code pattern number) old (error_number why)
no-node code pattern number None why is opens = record { result = Err why; opened = opens; told = (refl, refl) }
no-node code pattern number (Some old) why is opens = absurd (subst (λ (b : Bool). T b) is tt)

pub is-sink : (code : Code) (pattern number : ℕ) (new : Option Opened) (opened : Opened)
    → OpensBoxedSink code pattern number (Ok opened) → new ≡ Some opened → IsOpened kinds.Sink (OpensSink code pattern number) new ok
is-sink code pattern number new (kinds.Code it) opens holds = absurd opens
is-sink code pattern number new (kinds.Node it) opens holds = absurd opens
is-sink code pattern number new (kinds.Sink it) opens holds = record { result = Ok it; opened = opens; told = (refl, holds) }

pub no-sink : (code : Code) (pattern number : ℕ) (old : Option Opened) (why : CallError) → is_some old ≡ false
    → OpensBoxedSink code pattern number (Err why) → IsOpened kinds.Sink (OpensSink code pattern number) old (error_number why)
no-sink code pattern number None why is opens = record { result = Err why; opened = opens; told = (refl, refl) }
no-sink code pattern number (Some old) why is opens = absurd (subst (λ (b : Bool). T b) is tt)
