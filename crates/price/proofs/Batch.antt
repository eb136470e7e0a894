-- Prices that are written row by row: what the rows passed hold, one row more, and the whole outcome. Assumes nothing.
use Prim.Native.Nat.{ℕ, ◌+◌, ◌≤◌, ◌<◌}
use mathlib.Core.Path.{◌≡◌, refl, sym, ap, ◌∙◌}
use mathlib.Core.Bool.{Bool, true, false}
use Rattle.std.specs.declared.option.Option.{Option}
use Rattle.std.specs.declared.option.Option.TheVariants.{None, Some}
use Rattle.std.specs.Option.{unwrap_or, is_some}
use mathlib.Core.List.{List}
use mir.Val.{bool_byte}
use native.Mathlib.Omega.{arith}
use native.Mathlib.Nat.{zero-add}
use lib.Dec.{leb}
use lib.IntN.{ℤ, pos}
use lib.ListN.{length, get_or, take, set}
use lib.Seq.{drop-cons}
use Rattle.rules.specs.Lists.{Width, keys}
use Rattle.rules.specs.Answer.{Outcome, leaves, laid}
use Rattle.rules.specs.Merged.{Merged}
use Rattle.std.specs.declared.result.Result.TheVariants.{Ok}
use Rattle.rules.proofs.Fronts.{laid_more}
use Rattle.price.specs.Reading.{price_at, pence, presence}
use Rattle.price.specs.Batch.{Priced, room, lay, prices_at}
use Rattle.price.proofs.Reading.{front_at}

-- as the code writes them
pub pence_is : (x : Option ℤ) → unwrap_or x (pos 0) ≡ pence x
pence_is None = refl
pence_is (Some v) = refl

pub presence_is : (x : Option ℤ) → bool_byte (is_some x) ≡ presence x
presence_is None = refl
presence_is (Some v) = refl

row : {P A : Type 0} (f : P → A) (ps : List P) (i : ℕ) (x : P) (old : List A) → i < length ps → length ps ≤ length old → set (laid 0 f (take i ps) old) i (f (get_or ps i x)) ≡ laid 0 f (take (i + 1) ps) old
row f ps i x old h l = ap (λ k. set (laid 0 f (take i ps) old) k (f (get_or ps i x))) (sym (zero-add i)) ∙ laid_more f 0 ps i _ _ old (drop-cons ps i x h) (omega arith)

module _ {P : Type 0} (w : Width P) (c : Merged P) (n : ℕ) (ps : List P) (d : Priced) where
  abbrev value_of : P → ℤ
  value_of p = pence (price_at w c n (w.key p))

  abbrev presence_of : P → ℕ
  presence_of p = presence (price_at w c n (w.key p))

  -- the first i rows are written
  pub record Written (i : ℕ) (r : Priced) : Type 0 where
    pub passed : i ≤ length ps
    pub value_long : length ps ≤ length d.value
    pub presence_long : length ps ≤ length d.presence
    pub value : r.value ≡ laid 0 value_of (take i ps) d.value
    pub presence : r.presence ≡ laid 0 presence_of (take i ps) d.presence

  -- each row of a call that was done has the price at its point
  module _ {m : ℕ} {r : Priced} (e : leaves (Ok m) r ≡ prices_at w c n ps d) where
    all_laid : r ≡ lay w c n 0 ps d
    unfolding prices_at
    all_laid = go (leb (length ps) (room d)) refl
      where
        go : (t : Bool) → leb (length ps) (room d) ≡ t → r ≡ lay w c n 0 ps d
        go true q = let z = rw q at e in ap (λ (x : Outcome Priced). x.columns) z
        go false q = let z = ap (λ (x : Outcome Priced). x.answer) (rw q at e) in cc

    pub row_reads : (i : ℕ) → i < length ps → let x = price_at w c n (keys w ps i) in (get_or r.value i (pos 0) ≡ pence x) × (get_or r.presence i 0 ≡ presence x)
    row_reads i h =
        (ap (λ (x : Priced). get_or x.value i (pos 0)) all_laid ∙ front_at value_of ps _ i (pos 0) (w.point 0) h, ap (λ (x : Priced). get_or x.presence i 0) all_laid ∙ front_at presence_of ps _ i 0 (w.point 0) h)

-- one row more
pub written_more : {P : Type 0} {w : Width P} {c : Merged P} {n : ℕ} {ps : List P} {d : Priced} {i : ℕ} {r : Priced} → Written w c n ps d i r → {k : ℕ} {x : Option ℤ} → i < length ps → x ≡ price_at w c n k → k ≡ keys w ps i → Written w c n ps d (i + 1) (record { value = set r.value i (pence x); presence = set r.presence i (presence x) })
written_more {w = w} {c} {n} {ps} {d} {i} u h z e =
    record {
      passed = omega arith;
      value_long = u.value_long;
      presence_long = u.presence_long;
      value = rw (u.value, z, e) (row (value_of w c n ps d) ps i (w.point 0) d.value h u.value_long);
      presence = rw (u.presence, z, e) (row (presence_of w c n ps d) ps i (w.point 0) d.presence h u.presence_long);
    }
