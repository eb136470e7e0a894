-- A text that is written into a lent buffer. Assumes nothing.
use Rattle.std.specs.Prelude.{ℕ, List, ◌≡◌}
use Rattle.text_fields.specs.declared.Writer.{Writer}
use Rattle.answer_text.specs.Buffer.{Room, Put}

-- there is room for it
abbrev pub Fits : Writer → List ℕ → Type 0
Fits w t = Room w.at t w.out.now

-- it was written, and into the same buffer
pub record Writes (w : Writer) (t : List ℕ) (v : Writer) : Type 0 where
  pub same : v.out.ghost_name ≡ w.out.ghost_name
  pub put : Put w.at t w.out.now v.out.now v.at
