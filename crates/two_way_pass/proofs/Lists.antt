-- The two lists that the form checker passes: they lie end to end and ascend, and how many pieces they give. Assumes nothing.
use Prim.Native.Nat.{ℕ, ◌-◌, ◌*◌, ◌≤◌}
use mathlib.Core.Path.{◌≡◌, refl, ap, ◌∙◌}
use mathlib.Core.List.{List, [], ◌∷◌}
use native.Mathlib.Omega.{arith}
use native.Mathlib.Nat.{zero-add, sub-zero}
use lib.ListN.{length}
use Rattle.rules.specs.Piece.{Piece}
use Rattle.rules.specs.Lists.{Width, Lent, cut, total, tracks}
use Rattle.rules.specs.TwoWay.{paired}
use Rattle.rules.specs.Refusals.{Formed}
use Rattle.rules.specs.declared.Pairing.{Pairing}
use Rattle.rules.specs.declared.Kind.TheVariants.{TwoWay}
use Rattle.rules.proofs.Columns.{length_ranges}
use Rattle.rules.proofs.Room.{paired_room}
use Rattle.two_way.specs.Sides.{view, onward, Two, start_at, end_at, stop, remains}
use Rattle.two_way.specs.Steps.{Begun, Ready}
use Rattle.two_way.specs.declared.Cursor.{Cursor}
use Rattle.two_way.proofs.Sides.{side_fresh, here_before}
use Rattle.two_way_pass.specs.Pairs.{first, pairs, both}

module _ {P : Type 0} {w : Width P} {l : Lent P} (f : Formed w TwoWay l) where
  pub two_lists : length l.counts ≡ 2
  two_lists = f.two refl

  -- the left lies at the places below the first count, the right from there on
  module _ {m : ℕ} (q : m ≡ first l.counts) where
    abbrev t : Two P
    t = both w l m

    abbrev left_list : List (Piece ℕ)
    left_list = onward (start_at t) (end_at t) m 0

    abbrev right_list : List (Piece ℕ)
    right_list = onward (start_at t) (end_at t) (stop t) m

    lie : tracks w l ≡ left_list ∷ right_list ∷ []
    lie = rw q (go l.counts two_lists f.agree.adds_up)
      where
        go : (ns : List ℕ) → length ns ≡ 2 → total ns ≡ stop t → cut (start_at t) (end_at t) (λ i. i) 0 ns ≡ onward (start_at t) (end_at t) (first ns) 0 ∷ onward (start_at t) (end_at t) (stop t) (first ns) ∷ []
        go (n ∷ k ∷ []) e s = let q : stop t - n ≡ k = omega arith in rw (q, zero-add, sub-zero)
        go [] e s = absurd (omega arith)
        go (n ∷ []) e s = absurd (omega arith)
        go (n ∷ k ∷ i ∷ ns) e s = absurd (omega arith)

    pub splits : m ≤ stop t
    splits = rw q (go l.counts two_lists f.agree.adds_up)
      where
        go : (ns : List ℕ) → length ns ≡ 2 → total ns ≡ stop t → first ns ≤ stop t
        go [] e s = absurd (omega arith)
        go (n ∷ ns) e s = omega arith

    -- from their first ranges on they are ready for a step, and all pieces are to come
    pub begun_ready : {k : Cursor} → Begun t k → Ready t (view t k) × ((o : Pairing) → pairs w o l ≡ remains t o (view t k))
    begun_ready {k} b =
        let u = rw lie at f.formed in
        let x = side_fresh w l.starts (end_at t) m 0 k.left b.left in
        let y = side_fresh w l.starts (end_at t) (stop t) m k.right b.right in (
          record {
            ends_long = f.agree.ends_long;
            splits = splits;
            left_place = here_before m k.left;
            right_place = here_before (stop t) k.right;
            left = rw x u.0;
            right = rw y u.1.0;
          },
          λ o. ap (paired o w.points) lie ∙ rw (x, y),
        )

    upto : (o : Pairing) → length (pairs w o l) ≤ 2 * stop t - 1
    upto o =
        rw lie
        (omega (arith, paired_room o w.points left_list right_list (rw lie at f.formed), length_ranges (start_at t) (end_at t) (λ i. i) 0 (m - 0), length_ranges (start_at t) (end_at t) (λ i. i) m (stop t - m), splits))

  -- there are at most twice as many pieces as ranges, less one
  pub pairs_upto : (o : Pairing) → length (pairs w o l) ≤ 2 * length l.starts - 1
  pairs_upto = upto refl
