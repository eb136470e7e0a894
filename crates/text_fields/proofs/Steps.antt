-- A text that grows step by step: whether it fits, and writing it. Assumes nothing.
use Prim.Native.Nat.{ℕ, zero, suc, ◌+◌, ◌-◌, ◌≤◌, ◌<◌}
use mathlib.Core.Path.{◌≡◌, ap}
use mathlib.Core.List.{List, ◌++◌}
use native.Mathlib.Omega.{arith}
use lib.ListN.{length, length-append}
use Rattle.text_fields.specs.declared.Writer.{Writer}
use Rattle.text_fields.specs.Writing.{Fits, Writes}
use Rattle.text_fields.proofs.Writing.{next_fits, both}

module _ (text : ℕ → List ℕ) (step : ℕ → List ℕ) (n : ℕ) (more : (i : ℕ) → i < n → text (i + 1) ≡ text i ++ step i) where
  longer : (i : ℕ) → i < n → length (text (i + 1)) ≡ length (text i) + length (step i)
  longer i l = rw (more i l) (length-append (text i) (step i))

  grows : (k i : ℕ) → i + k ≤ n → length (text i) ≤ length (text (i + k))
  grows zero i l = let e : i + 0 ≡ i = omega arith in rw e (omega arith)
  grows (suc k) i l =
      let e : i + suc k ≡ (i + k) + 1 = omega arith in
      rw e (omega (arith, longer (i + k) (omega arith), grows k i (omega arith)))

  pub within : (i : ℕ) → i ≤ n → length (text i) ≤ length (text n)
  within i l = let e : i + (n - i) ≡ n = omega arith in rw e at (grows (n - i) i (omega arith))

  -- the text so far and what is spare make up the room
  pub unfit : (i spare room : ℕ) → i < n → length (text i) + spare ≡ room → spare < length (step i) → room < length (text n)
  unfit i spare room l e h = omega (arith, longer i l, within (i + 1) (omega arith))

  -- the text so far is written
  module _ {w v : Writer} (h : Fits w (text n)) (i : ℕ) (l : i < n) (p : Writes w (text i) v) where
    so_far : Fits w (text i ++ step i)
    so_far = omega (arith, within (i + 1) (omega arith), ap length (more i l))

    pub step_fits : Fits v (step i)
    step_fits = next_fits (text i) (step i) so_far p

    pub stepped : {u : Writer} → Writes v (step i) u → Writes w (text (i + 1)) u
    stepped q = rw (more i l) (both (text i) (step i) so_far p q)
