-- A draft is given by its file: two drafts with one file are equal.
use Rattle.std.specs.Prelude.{List}
use Rattle.std.proofs.Common.{◌≡◌, ◌∙◌, ℕ, refl, sym, ap}
use Rattle.std.proofs.Props.{props}
use Rattle.gf_tables.specs.declared.kind.FieldKind.{FieldKind}
use Rattle.net_model.specs.declared.net.Net.{Net}
use Rattle.node_program.specs.Code.{IsDraft}
use Rattle.node_program.specs.declared.Operand.{Operand}
use Rattle.code_file.specs.DraftParts.{DraftParts, draft_parts_in}
use Rattle.code_file.specs.Drafts.{IsDraftFileOf, draft_parts}
use Rattle.code_file.specs.Reading.{Front}
use Rattle.code_file.specs.Spelling.{IsNetOf}
use Rattle.code_file.specs.declared.draft.Draft.{Draft}
use Rattle.code_file.proofs.DraftLaws.{draft_parts-same}
use Rattle.net_reader.proofs.SameNet.{same_by_parts, same_net}

-- the network of a draft has the parts that the draft's file says
is_net_of : (net : Net) (rate : ℕ) (field : FieldKind) (operands : List (List Operand)) → IsDraft net rate field operands → IsNetOf (draft_parts_in 2 net rate field operands).front net
is_net_of net rate field operands is = record { nodes = refl; links = refl; source = refl; sinks = refl; patterns = refl; field = is.named_field; wanted = is.no_wanted }

-- networks with the same such parts are equal
same_of_parts : (one other : Net) (front front' : Front) → IsNetOf front one → IsNetOf front' other → front ≡ front' → one ≡ other
same_of_parts one other front front' is is' same = same_net one other (cc)

-- networks of drafts of which the files say the same are equal
pub same_draft_net : (one other : Net) (rate rate' : ℕ) (field field' : FieldKind) (operands operands' : List (List Operand))
    → IsDraft one rate field operands → IsDraft other rate' field' operands' → draft_parts_in 2 one rate field operands ≡ draft_parts_in 2 other rate' field' operands' → one ≡ other
same_draft_net one other rate rate' field field' operands operands' is is' same =
    same_of_parts one other (draft_parts_in 2 one rate field operands).front (draft_parts_in 2 other rate' field' operands').front
    (is_net_of one rate field operands is) (is_net_of other rate' field' operands' is') (ap (λ (parts : DraftParts). parts.front) same)

-- the laws of a draft with this network, of which the file says this
abbrev IsDraftOf : Net × DraftParts → Type 0
IsDraftOf parts = IsDraft parts.0 parts.1.front.rate parts.1.front.field parts.1.operands

abbrev draft_of : (parts : Net × DraftParts) → IsDraftOf parts → Draft
draft_of parts is = record { net = parts.0; rate = parts.1.front.rate; field = parts.1.front.field; operands = parts.1.operands; draft = is }

-- they have one proof at most
IsDraft-prop : (parts : Net × DraftParts) → IsProp (IsDraftOf parts)
IsDraft-prop parts = hlevel props

-- drafts with one file are equal
pub same_draft : (bytes : List ℕ) (one other : Draft) → IsDraftFileOf bytes one → IsDraftFileOf bytes other → one ≡ other
same_draft bytes one other is is' =
    let said = draft_parts-same one other (sym is ∙ is') in
    let net = same_draft_net one.net other.net one.rate other.rate one.field other.field one.operands other.operands one.draft other.draft said in
    same_by_parts IsDraftOf draft_of IsDraft-prop (one.net, draft_parts one) (other.net, draft_parts other) one.draft other.draft (cc)
