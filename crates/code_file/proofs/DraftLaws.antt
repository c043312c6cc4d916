-- Reading and spelling draft files: a file that's read is the one spelling of what it says, and that's what a draft has; the file
-- of a draft is read, and begins no other one; and drafts with one file have the same parts.
use Rattle.std.specs.Prelude.{◌≡◌, ℕ, ◌==◌, false, true, List, [], ◌++◌, Ok, Err}
use Rattle.std.specs.List.{concat}
use Rattle.std.proofs.Common.{refl, sym, ap, ◌∙◌, arith, inl, inr}
use Rattle.std.proofs.lemmas.Bool.{eqb-true, or_cases}
use Rattle.net_model.specs.Lists.{is_among}
use Rattle.code_items.specs.declared.refusal.CodeRefusal.{CodeRefusal}
use Rattle.code_items.specs.DraftParts.{DraftParts, draft_items_in, draft_parts_at, draft_parts_in}
use Rattle.code_items.proofs.DraftReaders.{AreDraftPartsRead, AreDraftPartsRead-from_draft, draft_items-in, draft_parts_reader}
use Rattle.code_items.proofs.Readers.{IsBytes, IsReader}
use Rattle.code_items.proofs.WholeLaws.{whole-again, whole-prefix, whole-same, whole-spelled}
use Rattle.code_file.specs.declared.draft.Draft.{Draft}
use Rattle.code_file.specs.Drafts.{IsDraftFileOf, draft_bytes, draft_mark, draft_parts, draft_parts_of, draft_versions}
use Rattle.code_file.specs.Spelling.{AreDraftParts}
use Rattle.code_file.proofs.ContentsLaws.{AreDraftParts-from_read, IsNetOf-net_of, net_of}
use Rattle.code_file.proofs.ReadingLaws.{says_any_field}
use Rattle.code_file.proofs.Refusals.{not_both}

-- the version of drafts
version_is : (version : ℕ) → is_among draft_versions version ≡ true → version ≡ 2
version_is version known =
    elim (or_cases (2 == version) false known) [
      | inl is ↦ sym (eqb-true 2 version is)
      | inr none ↦ absurd cc
    ]

-- all but the end of the file
draft_reader : IsReader (draft_parts_at draft_mark draft_versions) (λ parts. concat (draft_items_in draft_mark parts)) (AreDraftPartsRead draft_versions)
draft_reader = draft_parts_reader draft_mark draft_versions refl (λ version known. omega (arith, version_is version known))

-- what is said of a draft is spelled as the draft
draft_spelled : (draft : Draft) → concat (draft_items_in draft_mark (draft_parts draft)) ≡ draft_bytes draft
unfolding draft_bytes
draft_spelled draft = draft_items-in draft_mark draft_versions 2 draft.net draft.rate draft.field draft.operands

-- what is said of a draft is read
draft_read : (draft : Draft) → AreDraftPartsRead draft_versions (draft_parts draft)
draft_read draft = AreDraftPartsRead-from_draft draft_mark draft_versions 2 draft.net draft.rate draft.field draft.operands refl (says_any_field draft.field) draft.draft

-- What the file of a draft says is what the draft has.
pub draft_parts_of-draft_bytes : (draft : Draft) → draft_parts_of (draft_bytes draft) ≡ Ok (draft_parts draft)
unfolding draft_parts_of
draft_parts_of-draft_bytes draft = ap draft_parts_of (sym (draft_spelled draft)) ∙ whole-again draft_reader (draft_parts draft) (draft_read draft)

-- so it isn't refused
pub draft_not_refused : (bytes : List ℕ) (draft : Draft) (why : CodeRefusal) → IsDraftFileOf bytes draft → draft_parts_of bytes ≡ Err why → ⊥
draft_not_refused bytes draft why is refused = not_both (draft_parts_of bytes) (draft_parts draft) why (ap draft_parts_of is ∙ draft_parts_of-draft_bytes draft) refused

-- what is read as the parts of a draft is what one has
pub AreDraftParts-from_draft_parts_of : (bytes : List ℕ) (parts : DraftParts) → IsBytes bytes → draft_parts_of bytes ≡ Ok parts → AreDraftParts parts
unfolding draft_parts_of
AreDraftParts-from_draft_parts_of bytes parts fits e = AreDraftParts-from_read draft_versions parts (whole-spelled draft_reader bytes parts fits e).1

-- Bytes that say what a draft has are the file of the draft.
pub IsDraftFileOf-from_draft_parts_of : (version : ℕ) (bytes : List ℕ) (draft : Draft) → IsBytes bytes
    → draft_parts_of bytes ≡ Ok (draft_parts_in version draft.net draft.rate draft.field draft.operands) → IsDraftFileOf bytes draft
unfolding draft_parts_of
IsDraftFileOf-from_draft_parts_of version bytes draft fits e =
    let t = whole-spelled draft_reader bytes (draft_parts_in version draft.net draft.rate draft.field draft.operands) fits e in
    t.0
    ∙ ap (λ (v : ℕ). concat (draft_items_in draft_mark (draft_parts_in v draft.net draft.rate draft.field draft.operands))) (version_is version t.1.known)
    ∙ draft_spelled draft

-- no file of a draft begins another one
pub draft_bytes-prefix : (more : List ℕ) (one other : Draft) → draft_bytes one ++ more ≡ draft_bytes other → more ≡ []
draft_bytes-prefix more one other same =
    whole-prefix draft_reader (draft_parts one) (draft_parts other) more (draft_read one) (draft_read other)
    (ap (λ (t : List ℕ). t ++ more) (draft_spelled one) ∙ same ∙ sym (draft_spelled other))

-- drafts with one file have the same parts
pub draft_parts-same : (one other : Draft) → draft_bytes one ≡ draft_bytes other → draft_parts one ≡ draft_parts other
draft_parts-same one other same =
    whole-same draft_reader (draft_parts one) (draft_parts other) (draft_read one) (draft_read other) (draft_spelled one ∙ same ∙ sym (draft_spelled other))

-- the draft of parts
unfoldable pub draft_of : (parts : DraftParts) → AreDraftParts parts → Draft
draft_of parts are =
    let front = parts.front in
    let net = net_of front are.network in
    record {
      net = net;
      rate = front.rate;
      field = front.field;
      operands = parts.operands;
      draft = are.draft net (IsNetOf-net_of front are.network);
    }
