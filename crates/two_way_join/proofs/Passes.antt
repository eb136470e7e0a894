-- From the judgement of what is lent and the passes to the outcome of a two-way join. Assumes nothing.
use Prim.Native.Nat.{ℕ, ◌-◌, ◌*◌}
use mathlib.Core.Path.{◌≡◌, refl, sym, ap, ◌∙◌}
use mathlib.Core.Bool.{Bool}
use mathlib.Core.List.{List}
use native.Mathlib.Omega.{arith}
use lib.IntN.{ℤ}
use lib.ListN.{length}
use Rattle.std.proofs.Common.{MutBor}
use Rattle.std.specs.declared.result.Result.TheVariants.{Ok, Err}
use Rattle.form.specs.Shape.{Judged}
use Rattle.rules.specs.Lists.{Width, Lent, held}
use Rattle.rules.specs.Answer.{Answer, Judgement, Outcome, leaves}
use Rattle.rules.specs.Paired.{Paired, columns, room}
use Rattle.rules.specs.Outcomes.{pairing}
use Rattle.rules.specs.Refusals.{Formed}
use Rattle.rules.specs.declared.Pairing.{Pairing}
use Rattle.rules.specs.declared.Lists.{Lists}
use Rattle.rules.specs.declared.Refusal.{Refusal}
use Rattle.rules.specs.declared.Kind.TheVariants.{TwoWay}
use Rattle.passes.specs.Runs.{Runnable, Ran}
use Rattle.passes.proofs.Runs.{runnable, settled, known_last}
use Rattle.two_way_pass.specs.Pairs.{pairs}
use Rattle.two_way_pass.specs.Columns.{lays, Roomy, Passed}
use Rattle.two_way_pass.proofs.Lists.{pairs_upto}

-- what the pass of a join holds: what is asked for, the lists, and the columns
abbrev pub Holds : Type 0 → Type 0
Holds P = Pairing × Lists P × MutBor (List P) × MutBor (List P) × MutBor (List ℤ) × MutBor (List ℤ) × MutBor (List ℕ)

-- two of them lend the same columns on
abbrev pub Alike : {P : Type 0} → Holds P → Holds P → Type 0
Alike f g = (f.0 ≡ g.0) × (f.1 ≡ g.1) × (f.2.ghost_name ≡ g.2.ghost_name) × (f.3.ghost_name ≡ g.3.ghost_name) × (f.4.ghost_name ≡ g.4.ghost_name) × (f.5.ghost_name ≡ g.5.ghost_name) × (f.6.ghost_name ≡ g.6.ghost_name)

abbrev pub columns_of : {P : Type 0} → Holds P → Paired P
columns_of f = columns f.2.now f.3.now f.4.now f.5.now f.6.now

-- what is said of the columns that it holds is said of those that are lent
pub said : {P : Type 0} (g : Holds P) {a : Answer} {x : Outcome (Paired P)} → leaves a (columns_of g) ≡ x → {i j k m n : ℕ} → (g.2.ghost_name ≡ i) × (g.3.ghost_name ≡ j) × (g.4.ghost_name ≡ k) × (g.5.ghost_name ≡ m) × (g.6.ghost_name ≡ n) → {s e : List P} {l r : List ℤ} {p : List ℕ} → (i ≡ g.2.ghost_name → s ≡ g.2.now) → (j ≡ g.3.ghost_name → e ≡ g.3.now) → (k ≡ g.4.ghost_name → l ≡ g.4.now) → (m ≡ g.5.ghost_name → r ≡ g.5.now) → (n ≡ g.6.ghost_name → p ≡ g.6.now) → leaves a (columns s e l r p) ≡ x
said g h t s e l r p = rw (s (sym t.0), e (sym t.1), l (sym t.2), r (sym t.3), p (sym t.4)) h

module _ {P : Type 0} {w : Width P} {l : Lent P} {r : Judgement} (j : Judged w TwoWay l r) where
  -- what is refused leaves the columns
  pub refused : (o : Pairing) {x : Refusal} {c : Paired P} → r ≡ Err x → leaves (Err x) c ≡ pairing w o l c
  unfolding pairing
  refused o q = let h = sym j.is ∙ q in rw h

  module _ (s : r ≡ Ok tt) {Step : Holds P → Bool → ℕ → Holds P → Type 0} (steps : (f : Holds P) (b : Bool) (n : ℕ) (g : Holds P) → Step f b n g → Alike g f × Passed w f.0 (held f.1) b (columns_of f) (columns_of g) n) (f : Holds P) (lent : held f.1 ≡ l) {space : ℕ} (q : space ≡ room (columns_of f)) where
    told : (h : Holds P) (b : Bool) (n : ℕ) (g : Holds P) → Alike h f → Step h b n g → Alike g f × (n ≡ length (pairs w f.0 l)) × (columns_of g ≡ lays w l.values b 0 (pairs w f.0 l) (columns_of h))
    told h b n g k e =
        let t = steps h b n g e in
        let u = t.0 in
        let p = rw (k.0, ap held k.1 ∙ lent) at t.1 in
        ((u.0 ∙ k.0, u.1 ∙ k.1, u.2 ∙ k.2, u.3 ∙ k.3, u.4 ∙ k.4, u.5 ∙ k.5, u.6 ∙ k.6), p.count, p.laid)

    -- where nothing is refused the passes can be run
    pub joins : {Pre : Holds P → Bool → Type 0} → ((g : Holds P) (b : Bool) → Formed w TwoWay (held g.1) → Roomy w g.0 (held g.1) b (columns_of g) → Pre g b) → Runnable Step (2 * length l.starts - 1) space Pre f
    joins pre =
        runnable (pairs_upto (j.passes s) f.0) (λ g. Alike g f) columns_of (λ b. lays w l.values b 0 (pairs w f.0 l)) (λ c. refl) told (refl, refl, refl, refl, refl, refl, refl)
        (λ g b h e m. let z = ap held h.1 ∙ lent in pre g b (rw z (j.passes s)) (rw (h.0, z, e) (record { enough = λ t. omega (arith, m t, q) })))

    -- and then they settle it
    pub joined : {g : Holds P} {a : Answer} → Ran Step (2 * length l.starts - 1) space f g a → (leaves a (columns_of g) ≡ pairing w f.0 l (columns_of f)) × Alike g f
    unfolding pairing
    joined t =
        let k : Alike f f = (refl, refl, refl, refl, refl, refl, refl) in (
          settled (pairs_upto (j.passes s) f.0) (λ g. Alike g f) columns_of (λ b. lays w l.values b 0 (pairs w f.0 l)) (λ c. refl) told k t ∙ let h = sym j.is ∙ s in rw (q, h),
          known_last (pairs_upto (j.passes s) f.0) (λ g. Alike g f) columns_of (λ b. lays w l.values b 0 (pairs w f.0 l)) (λ c. refl) told k t,
        )
