-- A code is given by its file: two codes with one file are equal.
use Rattle.std.specs.Prelude.{List}
use Rattle.std.proofs.Common.{◌≡◌, ℕ, ap}
use Rattle.std.proofs.Props.{props}
use Rattle.net_model.specs.declared.net.Net.{Net}
use Rattle.node_program.specs.Code.{IsCode}
use Rattle.node_program.specs.declared.code.Code.{Code}
use Rattle.code_file.specs.Items.{IsFileOf}
use Rattle.code_file.specs.Reading.{Contents, draft_in}
use Rattle.code_file.specs.Spelling.{contents_in}
use Rattle.code_file.proofs.ReadingLaws.{contents_in-same}
use Rattle.top_base.proofs.SameDraft.{same_draft_net}
use Rattle.net_reader.proofs.SameNet.{same_by_parts}

-- the laws of a code with this network, of which the file says this
abbrev IsCodeOf : Net × Contents → Type 0
IsCodeOf parts = IsCode parts.0 parts.1.front.rate parts.1.front.field parts.1.operands parts.1.decoders

abbrev code_of : (parts : Net × Contents) → IsCodeOf parts → Code
code_of parts is = record { net = parts.0; rate = parts.1.front.rate; field = parts.1.front.field; operands = parts.1.operands; decoders = parts.1.decoders; code = is }

-- they have one proof at most
IsCode-prop : (parts : Net × Contents) → IsProp (IsCodeOf parts)
IsCode-prop parts = hlevel props

-- codes with one file are equal
pub same_code : (bytes : List ℕ) (one other : Code) → IsFileOf bytes one → IsFileOf bytes other → one ≡ other
same_code bytes one other is is' =
    let said = contents_in-same bytes one other is is' 2 in
    let net = same_draft_net one.net other.net one.rate other.rate one.field other.field one.operands other.operands one.code.draft other.code.draft (ap draft_in said) in
    same_by_parts IsCodeOf code_of IsCode-prop (one.net, contents_in 2 one) (other.net, contents_in 2 other) one.code other.code (cc)
