-- Reading and spelling code files: a file that's read is the one spelling of what it says, and that's what a code has;
-- the files of a code are read; and a file that's no code's is refused.
use Rattle.std.specs.Prelude.{◌≡◌, ℕ, Bool, true, false, ◌==◌, List, [], ◌++◌, length, Ok, Err, if◌then◌else◌}
use Rattle.std.proofs.Common.{refl, sym, ap, ◌∙◌, append-nil}
use Rattle.std.proofs.lemmas.Bool.{eqb-true}
use Rattle.std.proofs.lemmas.List.{nil_from_length}
use Rattle.gf_tables.specs.declared.kind.FieldKind.{FieldKind}
use Rattle.gf_tables.specs.declared.kind.FieldKind.TheVariants.{Eight, Nine, Sixteen}
use Rattle.net_model.specs.Lists.{is_among}
use Rattle.node_program.specs.declared.code.Code.{Code}
use Rattle.code_file.specs.Items.{IsFileOf, bytes_in, bytes_of, code_versions}
use Rattle.code_items.specs.Reading.{has_field}
use Rattle.code_items.specs.Whole.{whole_of}
use Rattle.code_file.specs.Reading.{Contents, contents_at, contents_of}
use Rattle.code_file.specs.Spelling.{contents_in, spelling_of, AreContents}
use Rattle.code_file.proofs.SpellingLaws.{spelling_of-contents_in}
use Rattle.code_items.proofs.Readers.{ok_of, IsBytes, ok_is}
use Rattle.code_items.proofs.WholeLaws.{whole-append, whole-spelled}
use Rattle.code_file.proofs.CodeReaders.{AreContentsRead, contents_reader}
use Rattle.code_file.proofs.ContentsLaws.{AreContents-from_read, AreContentsRead-from_code, IsNetOf-net_of, net_of}
use Rattle.code_file.proofs.Refusals.{not_both}
use Rattle.code_items.specs.declared.refusal.CodeRefusal.{CodeRefusal}
use Rattle.code_items.specs.declared.refusal.CodeRefusal.TheVariants.{TrailingBytes}

-- what a file says is spelled by the file, and its items say it one by one
AreContentsRead-from_contents_of : (bytes : List ℕ) (contents : Contents) → IsBytes bytes → contents_of bytes ≡ Ok contents → (bytes ≡ spelling_of contents) × AreContentsRead contents
unfolding contents_of
AreContentsRead-from_contents_of bytes contents fits e = whole-spelled contents_reader bytes contents fits e

-- What a file says is spelled by the file, each byte of it, and it's what a code has.
pub AreContents-from_contents_of : (bytes : List ℕ) (contents : Contents) → IsBytes bytes → contents_of bytes ≡ Ok contents → (bytes ≡ spelling_of contents) × AreContents contents
AreContents-from_contents_of bytes contents fits e =
    let t = AreContentsRead-from_contents_of bytes contents fits e in
    (t.0, AreContents-from_read contents t.1)

-- a file that says what a code has is one of the code
pub IsFileOf-from_contents_of : (version : ℕ) (bytes : List ℕ) (code : Code) → IsBytes bytes → contents_of bytes ≡ Ok (contents_in version code) → IsFileOf bytes code
IsFileOf-from_contents_of version bytes code fits e =
    let t = AreContentsRead-from_contents_of bytes (contents_in version code) fits e in
    record { version = version; known = t.1.draft.known; says_field = t.1.draft.front.says_field; bytes_are = t.0 ∙ spelling_of-contents_in version code }

module _ (version : ℕ) (code : Code) (known : is_among code_versions version ≡ true) (says_field : has_field version code.field ≡ true) where
  -- a file of a code and what stands behind it
  pub contents_of-bytes_in-append : (more : List ℕ)
      → contents_of (bytes_in version code ++ more) ≡ (if length more == 0 then Ok (contents_in version code) else Err (TrailingBytes (length (bytes_in version code))))
  unfolding contents_of
  contents_of-bytes_in-append more =
      let contents = contents_in version code in
      let spelled = spelling_of-contents_in version code in
      ap (λ (t : List ℕ). whole_of contents_at (t ++ more)) (sym spelled)
      ∙ whole-append contents_reader contents more (AreContentsRead-from_code version code known says_field)
      ∙ ap (λ (t : List ℕ). if length more == 0 then ok_of contents else Err (TrailingBytes (length t))) spelled

  -- The file of a code in a version says what the code has.
  pub contents_of-bytes_in : contents_of (bytes_in version code) ≡ Ok (contents_in version code)
  contents_of-bytes_in = ap contents_of (sym (append-nil (bytes_in version code))) ∙ contents_of-bytes_in-append []

-- each file of a code says what the code has
pub contents_of-file : (bytes : List ℕ) (code : Code) (is : IsFileOf bytes code) → contents_of bytes ≡ Ok (contents_in is.version code)
contents_of-file bytes code is = ap contents_of is.bytes_are ∙ contents_of-bytes_in is.version code is.known is.says_field

-- so none is refused
pub file_not_refused : (bytes : List ℕ) (code : Code) (why : CodeRefusal) → IsFileOf bytes code → contents_of bytes ≡ Err why → ⊥
file_not_refused bytes code why is refused = not_both (contents_of bytes) (contents_in is.version code) why (contents_of-file bytes code is) refused

-- a code over any field can stand in a file of version 2
pub says_any_field : (field : FieldKind) → has_field 2 field ≡ true
says_any_field Eight = refl
says_any_field Nine = refl
says_any_field Sixteen = refl

-- what is written of a code is a file of it
pub IsFileOf-bytes_of : (code : Code) → IsFileOf (bytes_of code) code
IsFileOf-bytes_of code = record { version = 2; known = refl; says_field = says_any_field code.field; bytes_are = refl }

-- it says what the code has
pub contents_of-bytes_of : (code : Code) → contents_of (bytes_of code) ≡ Ok (contents_in 2 code)
unfolding IsFileOf-bytes_of
contents_of-bytes_of code = contents_of-file (bytes_of code) code (IsFileOf-bytes_of code)

-- no file of a code, in whichever version, begins another file of one
pub bytes_in-prefix : (bytes more : List ℕ) (one other : Code) → IsFileOf bytes one → IsFileOf (bytes ++ more) other → more ≡ []
bytes_in-prefix bytes more one other is is' =
    either (length more == 0) refl
    (sym (contents_of-bytes_in-append is.version one is.known is.says_field more)
    ∙ ap (λ (t : List ℕ). contents_of (t ++ more)) (sym is.bytes_are) ∙ contents_of-file (bytes ++ more) other is')
  where
    either : (b : Bool) → (length more == 0) ≡ b → (if b then ok_of (contents_in is.version one) else Err (TrailingBytes (length (bytes_in is.version one)))) ≡ Ok (contents_in is'.version other) → more ≡ []
    either true none e = nil_from_length more (eqb-true _ _ none)
    either false some e = absurd cc

-- codes with one file have the same parts
pub contents_in-same : (bytes : List ℕ) (one other : Code) → IsFileOf bytes one → IsFileOf bytes other → (version : ℕ) → contents_in version one ≡ contents_in version other
contents_in-same bytes one other is is' version =
    ap (λ (contents : Contents). in_version contents)
    (ok_is (contents_in is.version one) (contents_in is'.version other) (sym (contents_of-file bytes one is) ∙ contents_of-file bytes other is'))
  where
    in_version : Contents → Contents
    in_version contents = record { version = version; front = contents.front; operands = contents.operands; decoders = contents.decoders }

-- the code of contents
unfoldable pub code_of : (contents : Contents) → AreContents contents → Code
code_of contents are =
    let front = contents.front in
    let net = net_of front are.network in
    record {
      net = net;
      rate = front.rate;
      field = front.field;
      operands = contents.operands;
      decoders = contents.decoders;
      code = are.code net (IsNetOf-net_of front are.network);
    }
