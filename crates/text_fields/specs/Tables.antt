-- Rows as lines of text, whatever stands in them. Assumes nothing.
use Rattle.std.specs.Prelude.{ℕ, List}
use Rattle.answer_text.specs.Lines.{text}
use Rattle.answer_text.specs.Answers.{firsts}

-- the lines of the first n places
unfoldable pub rows_text : (ℕ → List (List ℕ)) → ℕ → List ℕ
rows_text fields n = text (firsts fields n)
