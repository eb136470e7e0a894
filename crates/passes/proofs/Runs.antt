-- An operation's passes, from state to state: what is known before each, and what they come to. Assumes nothing.
use Prim.Native.Nat.{ℕ, ◌≤◌, ◌<◌}
use mathlib.Core.Path.{◌≡◌, refl, sym, ap, ◌∙◌}
use mathlib.Core.Bool.{Bool, true, false, cond, true≢false}
use native.Mathlib.Omega.{arith}
use lib.Dec.{leb, ltb}
use borrow.Author.Tests.{leb-true, leb-false, ltb-true, ltb-false}
use Rattle.std.specs.declared.option.Option.{Option}
use Rattle.std.specs.declared.option.Option.TheVariants.{None, Some}
use Rattle.std.specs.declared.result.Result.TheVariants.{Ok, Err}
use Rattle.rules.specs.Answer.{Answer, leaves, settle}
use Rattle.rules.specs.declared.Refusal.TheVariants.{NoRoom}
use Rattle.rules.proofs.Refusals.{lacks as lacking, fits}
use Rattle.passes.specs.Conclusion.{concluded}
use Rattle.passes.specs.Runs.{Runnable, Ran, at_once, lacks, twice}

-- what a pass concludes, with what is known then: it wrote, it counted more than there is room for, or it counted and there is room
data Concludes (write : Bool) (n room : ℕ) : Option Answer → Type 0 where
  wrote : write ≡ true → Concludes write n room (Some (Ok n))
  lacked : write ≡ false → room < n → Concludes write n room (Some (Err (NoRoom n)))
  counted : write ≡ false → n ≤ room → Concludes write n room None

concludes : (write : Bool) (n room : ℕ) → Concludes write n room (concluded write n room)
concludes true n room = wrote refl
concludes false n room = go (ltb room n) refl
  where
    go : (t : Bool) → ltb room n ≡ t → Concludes false n room (cond t (Some (Err (NoRoom n))) None)
    go true e = lacked refl (ltb-true room n e)
    go false e = counted refl (ltb-false room n e)

module _ {F : Type 0} (Step : F → Bool → ℕ → F → Type 0) (most room : ℕ) where
  -- before a pass none was made, or one that counted, and there is room for what it counted: the state at first, and now
  pub data Before (f : F) : Bool → F → Type 0 where
    none_made : {write : Bool} → write ≡ leb most room → Before f write f
    one_made : {n : ℕ} {g : F} → Step f false n g → n ≤ room → Before f true g

module _ {F : Type 0} {Step : F → Bool → ℕ → F → Type 0} {most room : ℕ} {f : F} where
  -- the pass can be made
  pub may_run : {Pre : F → Bool → Type 0} → Runnable Step most room Pre f → {write : Bool} {g : F} → Before Step most room f write g → Pre g write
  may_run r (none_made {write = true} e) = r.sure (leb-true most room (sym e))
  may_run r (none_made {write = false} e) = r.counts (leb-false most room (sym e))
  may_run r (one_made s k) = r.again s k

  module _ {n : ℕ} {h : F} where
    concluding : {write : Bool} {g : F} {a : Answer} → Before Step most room f write g → Step g write n h → Concludes write n room (Some a) → Ran Step most room f h a
    concluding (none_made {write = true} e) s (wrote t) = at_once (leb-true most room (sym e)) s
    concluding (none_made {write = true} e) s (lacked t k) = absurd (true≢false t)
    concluding (none_made {write = false} e) s (wrote t) = absurd (true≢false (sym t))
    concluding (none_made {write = false} e) s (lacked t k) = lacks s k
    concluding (one_made p k) s (wrote t) = twice p k s
    concluding (one_made p k) s (lacked t j) = absurd (true≢false t)

    going_on : {write : Bool} {g : F} → Before Step most room f write g → Step g write n h → Concludes write n room None → (write ≡ false) × Before Step most room f true h
    going_on (none_made {write = true} e) s (counted t k) = absurd (true≢false t)
    going_on (none_made {write = false} e) s (counted t k) = (refl, one_made s k)
    going_on (one_made p k) s (counted t j) = absurd (true≢false t)

    module _ {write : Bool} {g : F} (b : Before Step most room f write g) (s : Step g write n h) {x : Option Answer} (is : x ≡ concluded write n room) where
      -- it is the last
      pub ran : {a : Answer} → x ≡ Some a → Ran Step most room f h a
      ran q = concluding b s (rw (sym is ∙ q) at (concludes write n room))

      -- it is not
      pub runs_on : x ≡ None → (write ≡ false) × Before Step most room f true h
      runs_on q = going_on b s (rw (sym is ∙ q) at (concludes write n room))

-- the pass of an operation whose pieces are that many, at most the most that there can be: what is known of each state, and what each call tells and lays into the columns
module _ {F C : Type 0} {Step : F → Bool → ℕ → F → Type 0} {most room needed : ℕ} (upto : needed ≤ most) (Known : F → Type 0) (columns : F → C) (lay : Bool → C → C) (still : (c : C) → lay false c ≡ c) (told : (f : F) (b : Bool) (n : ℕ) (g : F) → Known f → Step f b n g → Known g × (n ≡ needed) × (columns g ≡ lay b (columns f))) where
  -- it can be run, if it can be called where there is room for its pieces, where it writes them
  pub runnable : {Pre : F → Bool → Type 0} {f : F} → Known f → ((g : F) (b : Bool) → Known g → columns g ≡ columns f → (b ≡ true → needed ≤ room) → Pre g b) → Runnable Step most room Pre f
  runnable k pre = record {
    sure = λ h. pre _ _ k refl (λ e. omega (arith, upto));
    counts = λ h. pre _ _ k refl (λ e. absurd (true≢false (sym e)));
    again = λ s h. let t = told _ _ _ _ k s in pre _ _ t.0 (t.2 ∙ still _) (λ e. omega (arith, t.1));
  }

  -- and then the operation is settled
  pub settled : {f g : F} {a : Answer} → Known f → Ran Step most room f g a → leaves a (columns g) ≡ settle (Ok tt) needed room (columns f) (lay true (columns f))
  settled {f} k (at_once h s) = let t = told _ _ _ _ k s in rw (t.1, t.2) (sym (fits needed room (columns f) (lay true (columns f)) (omega (arith, upto))))
  settled {f} k (lacks s h) = let t = told _ _ _ _ k s in rw (t.1, t.2 ∙ still _) (sym (lacking needed room (columns f) (lay true (columns f)) (omega (arith, t.1))))
  settled {f} k (twice s h z) =
      let t = told _ _ _ _ k s in
      let u = told _ _ _ _ t.0 z in
      rw (u.1, u.2 ∙ ap (lay true) (t.2 ∙ still _)) (sym (fits needed room (columns f) (lay true (columns f)) (omega (arith, t.1))))

  -- and what is known of the state at first is known of it at last
  pub known_last : {f g : F} {a : Answer} → Known f → Ran Step most room f g a → Known g
  known_last k (at_once h s) = (told _ _ _ _ k s).0
  known_last k (lacks s h) = (told _ _ _ _ k s).0
  known_last k (twice s h z) = (told _ _ _ _ (told _ _ _ _ k s).0 z).0
