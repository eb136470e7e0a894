-- One text written after another. Assumes nothing.
use Prim.Native.Nat.{ℕ}
use mathlib.Core.Path.{◌∙◌}
use mathlib.Core.List.{List, [], ◌++◌}
use native.Mathlib.Omega.{arith}
use lib.ListN.{length-append}
use Rattle.text_fields.specs.declared.Writer.{Writer}
use Rattle.text_fields.specs.Writing.{Fits, Writes}
use Rattle.text_fields.proofs.Buffer.{puts, put_long, put_none}

pub writes_none : (w : Writer) → Writes w [] w
writes_none w = record { same = λ _. w.out.ghost_name; put = put_none w.at w.out.now }

pub first_fits : (w : Writer) (s t : List ℕ) → Fits w (s ++ t) → Fits w s
first_fits w s t h = omega (arith, length-append s t)

module _ {w v : Writer} (s t : List ℕ) (h : Fits w (s ++ t)) (p : Writes w s v) where
  pub next_fits : Fits v t
  next_fits = omega (arith, length-append s t, p.put.after, put_long {at = w.at} {r = v.at} {s = s} (omega (arith, length-append s t)) p.put)

  pub both : {u : Writer} → Writes v t u → Writes w (s ++ t) u
  both q = record { same = q.same ∙ p.same; put = puts (omega (arith, length-append s t)) p.put q.put }
