-- What a file says of a code is spelled as the code.
use Rattle.std.specs.Prelude.{◌≡◌, ℕ}
use Rattle.std.proofs.Common.{refl}
use Rattle.node_program.specs.declared.code.Code.{Code}
use Rattle.code_items.specs.Items.{front_items}
use Rattle.code_items.specs.Spelling.{front_items_in}
use Rattle.code_file.specs.Items.{items_in, bytes_in}
use Rattle.code_file.specs.Spelling.{contents_in, items_said, spelling_of}

-- what is said of a code is spelled as the code
pub spelling_of-contents_in : (version : ℕ) (code : Code) → spelling_of (contents_in version code) ≡ bytes_in version code
unfolding front_items front_items_in items_in items_said bytes_in spelling_of
spelling_of-contents_in version code = refl
