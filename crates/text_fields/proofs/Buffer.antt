-- Texts in a buffer: one after the other. Assumes nothing.
use Prim.Native.Nat.{ℕ, ◌+◌, ◌≤◌}
use mathlib.Core.Path.{◌≡◌, sym, ap, ◌∙◌}
use mathlib.Core.List.{List, [], ◌++◌, append_assoc}
use native.Mathlib.Nat.{add_assoc, add-zero}
use native.Mathlib.Omega.{arith}
use lib.ListN.{length, take, drop, length-append, take-append-drop}
use lib.Seq.{drop_at, drop-drop}
use Rattle.std.proofs.lemmas.Grind.{common_steps}
use Rattle.answer_text.specs.Buffer.{over, Room, Put}

module _ (at : ℕ) (s old : List ℕ) (h : at + length s ≤ length old) where
  length_over : length (over at s old) ≡ length old
  length_over = grind (arith, common_steps)

  front_long : length (take at old ++ s) ≡ at + length s
  front_long = grind (arith, common_steps)

  before : take (at + length s) (over at s old) ≡ take at old ++ s
  before = grind (arith, common_steps)

  after : drop (at + length s) (over at s old) ≡ drop (at + length s) old
  after =
      ap (drop (at + length s)) (sym (append_assoc (take at old) s (drop (at + length s) old)))
      ∙ drop_at (take at old ++ s) (drop (at + length s) old) (at + length s) front_long

  beyond : (k : ℕ) → drop (at + length s + k) (over at s old) ≡ drop (at + length s + k) old
  beyond k = sym (drop-drop k (at + length s) (over at s old)) ∙ ap (drop k) after ∙ drop-drop k (at + length s) old

  -- a text after another
  over_over : (t : List ℕ) → over (at + length s) t (over at s old) ≡ over at (s ++ t) old
  over_over t = rw (before, beyond (length t), length-append, append_assoc, append_assoc, add_assoc)

-- one place after another
pub puts : {at r q : ℕ} {s t old mid new : List ℕ} → Room at s old → Put at s old mid r → Put r t mid new q → Put at (s ++ t) old new q
puts {at} {r} {q} {s} {t} {old} {mid} {new} h a b =
    record {
      after = omega (arith, a.after, b.after, length-append s t);
      bytes = b.bytes ∙ ap (λ (k : ℕ). over k t mid) a.after ∙ ap (over (at + length s) t) a.bytes ∙ over_over at s old h t;
    }

-- as long as before, so that there is still room
pub put_long : {at r : ℕ} {s old mid : List ℕ} → Room at s old → Put at s old mid r → length mid ≡ length old
put_long {at} {r} {s} {old} {mid} h a = ap length a.bytes ∙ length_over at s old h

-- nothing written yet
pub put_none : (at : ℕ) (old : List ℕ) → Put at [] old old at
put_none at old = record { after = sym (add-zero at); bytes = sym (rw add-zero (take-append-drop at old)) }
