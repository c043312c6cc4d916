-- Draft files: the bytes of a draft, and what bytes say as the file of one.
use Rattle.std.specs.Prelude.{◌≡◌, ℕ, List, [], ◌∷◌, codes, Result}
use Rattle.std.specs.List.{concat}
use Rattle.code_items.specs.declared.refusal.CodeRefusal.{CodeRefusal}
use Rattle.code_items.specs.DraftParts.{DraftParts, draft_items, draft_parts_at, draft_parts_in}
use Rattle.code_items.specs.Items.{Item}
use Rattle.code_items.specs.Whole.{whole_of}
use Rattle.code_file.specs.declared.draft.Draft.{Draft}

-- what stands at the front of a draft's file, and the one version behind it
abbrev pub draft_mark : Item
draft_mark = codes "LIFK"

abbrev pub draft_versions : List ℕ
draft_versions = 2 ∷ []

-- the file of a draft
unfoldable pub draft_bytes : Draft → List ℕ
draft_bytes draft =
    concat (draft_items draft_mark 2 draft.net draft.rate draft.field draft.operands)

-- these bytes are the file of this draft
abbrev pub IsDraftFileOf : List ℕ → Draft → Type 0
IsDraftFileOf bytes draft = bytes ≡ draft_bytes draft

-- what the file of a draft says
abbrev pub draft_parts : Draft → DraftParts
draft_parts draft = draft_parts_in 2 draft.net draft.rate draft.field draft.operands

-- what bytes say as the file of a draft, or the refusal of the first item that isn't good
unfoldable pub draft_parts_of : List ℕ → Result DraftParts CodeRefusal
draft_parts_of = whole_of (draft_parts_at draft_mark draft_versions)
