-- The bytes of a line's text.
use Rattle.std.specs.Prelude.{ℕ, List}
use Rattle.top_base.specs.declared.text.Text.{Text}
use Rattle.top_base.specs.declared.text.Text.TheVariants.{Short, Long}

abbrev pub text_bytes : Text → List ℕ
text_bytes (Short text) = text.items
text_bytes (Long text) = text.items
