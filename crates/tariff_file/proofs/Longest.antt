-- A file of exactly 45,126 bytes is accepted. Assumes nothing.
use Prim.Native.Nat.{ℕ, zero, suc, ◌+◌, ◌*◌, ◌≤◌, ◌<◌}
use mathlib.Core.Path.{◌≡◌, refl, sym, ap, ◌∙◌}
use mathlib.Core.List.{List, [], ◌∷◌, ◌++◌, map}
use native.Mathlib.Omega.{arith}
use lib.IntN.{ℤ, pos}
use lib.ListN.{length, get_or}
use Rattle.rules.specs.Piece.{AllWellFormed, Within}
use Rattle.rules.specs.Lists.{instants, key64, keys, ranges, cut, total}
use Rattle.many_way_rules.specs.Sheet.{Typed, Tariff, flat, lend}
use Rattle.many_way_rules.specs.declared.Admission.TheVariants.{Every}
use Rattle.tariff_file.specs.Layout.{Bytes, half}
use Rattle.tariff_file.specs.File.{Head, written, accepted, read, AllRanges, AllLists, Sound}
use Rattle.tariff_file.specs.declared.Task.TheVariants.{Merge}
use Rattle.tariff_file.proofs.File.{written_long, written_bytes}
use Rattle.tariff_file.proofs.Read.{Ordered, read_written}

-- n ranges of a point each, one after the other from k on; m lists of n such ranges
abbrev point : ℕ → Typed ℤ ℤ
point k = record { start = pos k; end = pos k; value = pos 0 }

run : ℕ → ℕ → Tariff ℤ
run k zero = []
run k (suc n) = point k ∷ run (suc k) n

runs : ℕ → ℕ → ℕ → List (Tariff ℤ)
runs n k zero = []
runs n k (suc m) = run k n ∷ runs n (k + n) m

run_held : (n k : ℕ) → k + n ≤ half 8 → AllRanges (run k n)
unfolding run
run_held zero k h = tt
run_held (suc n) k h = ((omega arith, (omega arith, (omega arith, tt))), run_held n (suc k) (omega arith))

run_long : (n k : ℕ) → length (run k n) ≡ n
unfolding run
run_long zero k = refl
run_long (suc n) k = ap suc (run_long n (suc k))

run_more : (n m k : ℕ) → run k n ++ run (k + n) m ≡ run k (n + m)
unfolding run
run_more zero m k = let z : k + 0 ≡ k = omega arith in let w : 0 + m ≡ m = omega arith in λ i. run (z i) (sym w i)
run_more (suc n) m k =
    let z : k + suc n ≡ suc k + n = omega arith in
    let w : suc n + m ≡ suc (n + m) = omega arith in
    ap (λ (j : ℕ). run k (suc n) ++ run j m) z ∙ ap (λ (l : Tariff ℤ). point k ∷ l) (run_more n m (suc k)) ∙ ap (run k) (sym w)

run_at : (f : Typed ℤ ℤ → ℤ) → ((k : ℕ) → f (point k) ≡ pos k) → (n k i : ℕ) (d : ℤ) → i < n → get_or (map f (run k n)) i d ≡ pos (k + i)
unfolding run
run_at f e zero k i d h = absurd (omega arith)
run_at f e (suc n) k zero d h = let z : k ≡ k + 0 = omega arith in e k ∙ ap pos z
run_at f e (suc n) k (suc i) d h = let z : suc k + i ≡ k + suc i = omega arith in run_at f e n (suc k) i d (omega arith) ∙ ap pos z

module _ (n : ℕ) where
  runs_long : (m k : ℕ) → length (runs n k m) ≡ m
  unfolding runs
  runs_long zero k = refl
  runs_long (suc m) k = ap suc (runs_long m (k + n))

  runs_total : (m k : ℕ) → total (map length (runs n k m)) ≡ m * n
  unfolding runs
  runs_total zero k = omega arith
  runs_total (suc m) k = omega (arith, run_long n k, runs_total m (k + n))

  runs_held : (m k : ℕ) → k + m * n ≤ half 8 → AllLists (runs n k m)
  unfolding runs
  runs_held zero k h = tt
  runs_held (suc m) k h = (run_held n k (omega arith), runs_held m (k + n) (omega arith))

  runs_flat : (m k : ℕ) → flat (runs n k m) ≡ run k (m * n)
  unfolding runs run
  runs_flat zero k = let z : 0 ≡ 0 * n = omega arith in ap (run k) z
  runs_flat (suc m) k = let z : n + m * n ≡ suc m * n = omega arith in ap (λ (l : Tariff ℤ). run k n ++ l) (runs_flat m (k + n)) ∙ run_more n (m * n) k ∙ ap (run k) z

-- ranges of a point each, in ascending order, are well formed however they are cut
module _ {A : Type 0} (s e : ℕ → ℕ) (v : ℕ → A) (points p n : ℕ) (low : p + n ≤ points) (each : (j : ℕ) → j < n → (s j ≡ p + j) × (e j ≡ p + j)) where
  points_within : (m i c : ℕ) → i + m ≤ n → c ≤ p + i → Within c points (ranges s e v i m)
  points_within zero i c h l = omega arith
  points_within (suc m) i c h l = let q = each i (omega arith) in (omega arith, omega arith, points_within m (suc i) (e i + 1) (omega arith) (omega arith))

  points_formed : (ns : List ℕ) (i : ℕ) → i + total ns ≤ n → AllWellFormed points (cut s e v i ns)
  points_formed [] i h = tt
  points_formed (m ∷ ns) i h = (points_within m i 0 (omega arith) (omega arith), points_formed ns (i + m) (omega arith))

module _ (n m : ℕ) where
  runs_at : (f : Typed ℤ ℤ → ℤ) → ((k : ℕ) → f (point k) ≡ pos k) → (j : ℕ) → j < m * n → keys instants (map f (flat (runs n 0 m))) j ≡ half 8 + j
  unfolding key64
  runs_at f e j l =
      let d = instants.point 0 in
      ap (λ (l : Tariff ℤ). key64 (get_or (map f l) j d)) (runs_flat n m 0) ∙ ap key64 (run_at f e (m * n) 0 j d l) ∙ omega arith

  runs_ordered : m * n ≤ half 8 → Ordered (runs n 0 m)
  runs_ordered h =
      let c = lend (runs n 0 m) in
      points_formed (keys instants c.starts) (keys instants c.ends) (λ i. i) instants.points (half 8) (m * n) (omega arith)
      (λ j l. (runs_at (λ x. x.start) (λ k. refl) j l, runs_at (λ x. x.end) (λ k. refl) j l))
      c.counts 0 (omega (arith, runs_total n m 0))

-- 16 lists with 2,048 ranges in all
longest_head : Head
longest_head = record { operation = 4; combiner = 1 }

longest_sound : Sound longest_head (runs 128 0 16)
unfolding longest_head
longest_sound =
    record {
      task = Merge Every;
      operation_known = refl;
      few_lists = omega (arith, runs_long 128 16 0);
      right_lists = refl;
      right_combiner = refl;
      few_ranges = omega (arith, runs_total 128 16 0);
      all_held = runs_held 128 16 0 (omega arith);
    }

pub longest : (b : List ℕ) × (h : Head) × (ls : List (Tariff ℤ)) × Bytes b × (length b ≡ 45126) × (read b ≡ accepted h ls)
longest =
    let h = longest_head in
    let ls = runs 128 0 16 in
    (written h ls, h, ls, written_bytes h ls longest_sound, omega (arith, written_long h ls, runs_long 128 16 0, runs_total 128 16 0), read_written h ls longest_sound (runs_ordered 128 16 (omega arith)))
