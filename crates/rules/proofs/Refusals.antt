-- The refusals: each answer is given exactly when its row of the table says so and none of an earlier turn is due, and what follows where nothing is refused. Assumes nothing.
use Prim.Native.Nat.{ℕ, suc, ◌≤◌, ◌<◌}
use mathlib.Core.Path.{◌≡◌, refl, sym, ap, ◌∙◌, subst}
use mathlib.Core.Logic.{◌↔◌, ◌≢◌, ◌⊎◌, inl, inr, ⊎_elim}
use mathlib.Core.Bool.{Bool, true, false, cond, not-eq-not, false≢true}
use mathlib.Core.List.{[], ◌∷◌}
use native.Mathlib.Omega.{arith}
use native.Mathlib.Nat.{sub-zero, eq-or-lt_of_le, le_of_suc-le-suc}
use lib.IntN.{pos}
use lib.ListN.{length, get_or}
use borrow.Author.Tests.{le-ltb, le-leb, lt-leb}
use Rattle.std.specs.declared.result.Result.TheVariants.{Ok, Err}
use Rattle.rules.proofs.At.{le_or_lt}
use Rattle.rules.specs.Piece.{AllWellFormed}
use Rattle.rules.specs.Lists.{Width, Lent, keys, lists, tracks}
use Rattle.rules.specs.Answer.{Judgement, Answer, code_of, refuse, judge_lists, two_way, unknown_combiner, agree, judge, Outcome, leaves, settle}
use Rattle.rules.specs.Refusals.{turn, Agree, Formed, IsBackward, IsOverlap, FirstFault, Due, Given}
use Rattle.rules.specs.declared.Refusal.{Refusal}
use Rattle.rules.specs.declared.Refusal.TheVariants.{TooManyLists, NotTwoLists, TooManyRanges, ColumnsDiffer, Backward, Overlap, UnknownCombiner, NoRoom}
use Rattle.rules.specs.declared.Kind.{Kind}
use Rattle.rules.specs.declared.Kind.TheVariants.{Listing, TwoWay, Combining, Selection}
use Rattle.rules.proofs.Faults.{Tells, tells_true, tells_lt, tells_le, tells_eq, tells_not, tells_both, tells_as, tells_holds, tells_not_holds, Names, backward, overlap, names_fault, Fault, Finds, sound, refused, fault_only, finds_lists, not_refused, all_clear, formed_values, all_formed}

module _ {C : Type 0} (needed room : ℕ) (before after : C) where
  abbrev choice : Bool → Outcome C
  choice t = cond t (leaves (Ok needed) after) (leaves (Err (NoRoom needed)) before)

  pub lacks : room < needed → settle (Ok tt) needed room before after ≡ leaves (Err (NoRoom needed)) before
  lacks h = ap choice (lt-leb needed room h)

  pub fits : needed ≤ room → settle (Ok tt) needed room before after ≡ leaves (Ok needed) after
  fits h = ap choice (le-leb needed room h)

  -- every refusal leaves the columns untouched
  pub refused_keeps : (j : Judgement) → code_of (settle j needed room before after).answer ≢ 0 → (settle j needed room before after).columns ≡ before
  refused_keeps (Err r) n = refl
  refused_keeps (Ok u) n =
      ⊎_elim (λ h. absurd (n (ap (λ (o : Outcome C). code_of o.answer) (fits h)))) (λ h. ap (λ (o : Outcome C). o.columns) (lacks h)) (le_or_lt needed room)

agree_tells : {P : Type 0} (l : Lent P) → Tells (agree l) (Agree l)
agree_tells l =
    tells_as (λ h. record { ends_long = h.0.0; values_long = h.0.1; adds_up = h.1 }) (λ h. ((h.ends_long, h.values_long), h.adds_up))
    (tells_both (tells_both (tells_eq _ _) (tells_eq _ _)) (tells_eq _ _))

module _ {P : Type 0} (w : Width P) (l : Lent P) where
  -- a names what is wrong at a place; a names the first fault
  abbrev NamesAt : Answer → ℕ → Type 0
  NamesAt = Names (IsBackward w l) (IsOverlap w l)

  abbrev FirstIs : Answer → Type 0
  FirstIs = Fault (IsBackward w l) (IsOverlap w l) 0 (length l.starts)

  first_is : {a : Answer} (i : ℕ) → FirstFault w l i → NamesAt a i → FirstIs a
  first_is i f n = record { place = i; from = omega arith; below = f.0; clean = λ j h. f.1 j; names = n }

module _ {P : Type 0} (w : Width P) (k : Kind) (l : Lent P) (needed room : ℕ) where
  abbrev IsDue : Answer → Type 0
  IsDue = Due w k l needed room

  -- what an answer that is due is, by its turn
  abbrev Row : ℕ → Answer → Type 0
  Row t a = get_or ((a ≡ Err TooManyLists) ∷ (a ≡ Err NotTwoLists) ∷ (a ≡ Err ColumnsDiffer) ∷ (a ≡ Err TooManyRanges) ∷ (a ≡ Err UnknownCombiner) ∷ FirstIs w l a ∷ (a ≡ Err (NoRoom needed)) ∷ []) t (a ≡ Ok needed)

  row : (a : Answer) → IsDue a → Row (turn a) a
  row (Err TooManyLists) d = refl
  row (Err NotTwoLists) d = refl
  row (Err ColumnsDiffer) d = refl
  row (Err TooManyRanges) d = refl
  row (Err UnknownCombiner) d = refl
  row (Err (Backward i)) d = first_is w l i d.0 (backward d.1)
  row (Err (Overlap i)) d = first_is w l i d.0 (overlap d.1 d.2)
  row (Err (NoRoom n)) d = ap (λ n. Err (NoRoom n)) d.1
  row (Ok n) d = ap Ok d

  -- no answer of a turn before m is due
  abbrev Clear : ℕ → Type 0
  Clear m = (b : Answer) → turn b < m → IsDue b → ⊥

  -- a is the one answer of its turn
  abbrev Only : Answer → Type 0
  Only a = (b : Answer) → Row (turn a) b → b ≡ a

  clear_more : (m : ℕ) → ((b : Answer) → Row m b → IsDue b → ⊥) → Clear m → Clear (suc m)
  clear_more m None clear b h d = ⊎_elim (λ q. None b (subst (λ t. Row t b) q (row b d)) d) (λ q. clear b q d) (eq-or-lt_of_le (le_of_suc-le-suc h))

  clear_past : (a : Answer) → Only a → (IsDue a → ⊥) → Clear (turn a) → Clear (suc (turn a))
  clear_past a only None clear = clear_more (turn a) (λ b r d. None (subst IsDue (only b r) d)) clear

  -- a is given, and no other
  record Sole (a : Answer) : Type 0 where
    due : IsDue a
    clear : Clear (turn a)
    only : Only a

  -- what a judgement tells
  data Told : Judgement → Type 0 where
    none_due : Clear 6 → judge_lists (tracks w l) ≡ Ok tt → Told (Ok tt)
    one_due : {r : Refusal} → turn (Err r) < 6 → Sole (Err r) → Told (Err r)

  -- one refusal of the ladder, whose test tells whether it is due
  rung : {t : Bool} (r : Refusal) {next : Judgement} → turn (Err r) < 6 → Only (Err r) → Tells t (IsDue (Err r)) → Clear (turn (Err r)) → (Clear (suc (turn (Err r))) → Told next) → Told (refuse t r next)
  rung {t = true} r low only tells clear rest = one_due low (record { due = tells.yes refl; clear = clear; only = only })
  rung {t = false} r low only tells clear rest = rest (clear_past (Err r) only (tells.no refl) clear)

  first_due : {a : Answer} {i : ℕ} → FirstFault w l i → NamesAt w l a i → (turn a ≡ 5) × IsDue a
  first_due f (backward b) = (refl, (f, b))
  first_due f (overlap n o) = (refl, (f, n, o))

  found : {j : Judgement} → Clear 5 → Finds (IsBackward w l) (IsOverlap w l) 0 (length l.starts) j → judge_lists (tracks w l) ≡ j → Told j
  found clear (sound c) q = none_due (clear_more 5 (λ b f d. c f.place f.from f.below (names_fault f.names)) clear) q
  found clear (refused {r} f) e =
      let d = first_due (f.below, λ j. f.clean j (omega arith)) f.names in
      let q = d.0 in
      one_due {r = r} (omega arith) (record { due = d.1; clear = rw q clear; only = λ b r. fault_only (rw q at r) f })

  faults : Clear 5 → Told (judge_lists (tracks w l))
  faults clear =
      let a = tells_holds (agree_tells l) (clear (Err ColumnsDiffer) (omega arith)) in
      found clear
      (finds_lists (keys w l.starts) (keys w l.ends) (IsOverlap w l) 0 l.counts (length l.starts) (omega arith)
      (λ j h m. rw (sub-zero j) (tells_both (tells_true _) (tells_le _ _))))
      refl

  told : Told (judge w k l)
  unfolding judge
  told =
      rung TooManyLists (omega arith) (λ b r. r) (tells_lt 16 _) (λ b h d. omega arith)
      (λ c. rung NotTwoLists (omega arith) (λ b r. r) (tells_both (tells_true _) (tells_not (tells_eq _ 2))) c
      (λ c. rung ColumnsDiffer (omega arith) (λ b r. r) (tells_not (agree_tells l)) c
      (λ c. rung TooManyRanges (omega arith) (λ b r. r) (tells_lt 2048 _) c
      (λ c. rung UnknownCombiner (omega arith) (λ b r. r) (tells_true _) c faults))))

  sole_is : {s : Answer} → Sole s → (a : Answer) → Given w k l needed room a → a ≡ s
  sole_is {s} p a g =
      let h : turn a < turn s → ⊥ = λ m. p.clear a m g.0 in
      let h' : turn s < turn a → ⊥ = λ m. g.1 s m p.due in
      let q : turn a ≡ turn s = omega arith in
      p.only a (rw q at (row a g.0))

  module _ {C : Type 0} (before after : C) where
    abbrev outcome : Judgement → Outcome C
    outcome j = settle j needed room before after

    settled : {j : Judgement} → Told j → Sole (outcome j).answer
    settled (one_due low s) = s
    settled (none_due clear s) = go (le_or_lt needed room)
      where
        go : (needed ≤ room) ⊎ (room < needed) → Sole (outcome (Ok tt)).answer
        go (inl h) =
            subst (λ (o : Outcome C). Sole o.answer) (sym (fits needed room before after h))
            (record { due = refl; clear = clear_past (Err (NoRoom needed)) (λ b r. r) (λ d. omega arith) clear; only = λ b r. r })
        go (inr h) = subst (λ (o : Outcome C). Sole o.answer) (sym (lacks needed room before after h)) (record { due = (h, refl); clear = clear; only = λ b r. r })

    pub given_actual : Given w k l needed room (settle (judge w k l) needed room before after).answer
    given_actual = let s = settled told in (s.due, s.clear)

    -- each answer is given exactly when its row of the table says so and none of an earlier turn is due
    pub given : (a : Answer) → ((settle (judge w k l) needed room before after).answer ≡ a) ↔ Given w k l needed room a
    given a = (λ q. rw q at given_actual, λ g. sym (sole_is (settled told) a g))

    -- what is done is written
    pub done_writes : (n : ℕ) → (settle (judge w k l) needed room before after).answer ≡ Ok n → (settle (judge w k l) needed room before after).columns ≡ after
    done_writes n = go told
      where
        go : {j : Judgement} → Told j → (outcome j).answer ≡ Ok n → (outcome j).columns ≡ after
        go (one_due low s) q = absurd (omega (arith, ap turn q))
        go (none_due clear s) q =
            ⊎_elim (λ h. ap (λ (o : Outcome C). o.columns) (fits needed room before after h))
            (λ h. absurd (omega (arith, ap turn q, ap (λ (o : Outcome C). turn o.answer) (lacks needed room before after h)))) (le_or_lt needed room)

  pub given_only : (a b : Answer) → Given w k l needed room a → Given w k l needed room b → a ≡ b
  given_only a b g h = sym ((given {C = Unit} tt tt a).1 g) ∙ (given {C = Unit} tt tt b).1 h

  -- what is refused before an operation runs is neither done nor short of room
  pub refused_early : (r : Refusal) → judge w k l ≡ Err r → turn (Err r) < 6
  refused_early r q = go (rw q at told)
    where
      go : Told (Err r) → turn (Err r) < 6
      go (one_due low s) = low

-- what holds where nothing is refused before an operation runs
module _ {P : Type 0} (w : Width P) (k : Kind) (l : Lent P) where
  passed : judge w k l ≡ Ok tt → Clear w k l 0 0 6 × (judge_lists (tracks w l) ≡ Ok tt)
  passed h = go (rw h at (told w k l 0 0))
    where
      go : Told w k l 0 0 (Ok tt) → Clear w k l 0 0 6 × (judge_lists (tracks w l) ≡ Ok tt)
      go (none_due clear s) = (clear, s)

  pub sound_agrees : judge w k l ≡ Ok tt → Agree l
  sound_agrees h = let c : Clear w k l 0 0 6 = (passed h).0 in tells_holds (agree_tells l) (c (Err ColumnsDiffer) (omega arith))

  -- each end is a point
  pub sound_formed : ((i : ℕ) → i < length l.ends → keys w l.ends i < w.points) → judge w k l ≡ Ok tt → Formed w k l
  sound_formed low h =
      let c : Clear w k l 0 0 6 = (passed h).0 in
      let agree = sound_agrees h in
      record {
        lists_few = omega (arith, c (Err TooManyLists) (omega arith));
        two = λ z. tells_holds (tells_eq _ 2) (λ n. c (Err NotTwoLists) (omega arith) (z, n));
        agree = agree;
        ranges_few = omega (arith, c (Err TooManyRanges) (omega arith));
        known_combiner = not-eq-not.0 (c (Err UnknownCombiner) (omega arith));
        formed = all_formed _ _ (λ i. i) _ _ low 0 l.counts (omega (arith, agree.ends_long, agree.adds_up)) (passed h).1;
      }

  -- well-formed lists within the limits are judged sound
  pub formed_sound : Formed w k l → judge w k l ≡ Ok tt
  unfolding judge
  formed_sound f =
      not_refused TooManyLists (le-ltb 16 _ f.lists_few)
      (not_refused NotTwoLists (tells_not_holds (tells_both (tells_true (two_way k)) (tells_not (tells_eq (length l.counts) 2))) (λ h. h.1 (f.two h.0)))
      (not_refused ColumnsDiffer (tells_not_holds (tells_not (agree_tells l)) (λ n. n f.agree))
      (not_refused TooManyRanges (le-ltb 2048 _ f.ranges_few)
      (not_refused UnknownCombiner f.known_combiner (all_clear _ _ w.points 0 l.counts f.formed)))))

  -- given that each end is a point
  pub sound_exactly : ((i : ℕ) → i < length l.ends → keys w l.ends i < w.points) → (judge w k l ≡ Ok tt) ↔ Formed w k l
  sound_exactly low = (sound_formed low, formed_sound)

-- a test of kinds that fails at k and passes at k'
told_apart : (test : Kind → Bool) (k k' : Kind) → test k ≡ false → test k' ≡ true → (test k ≡ true) ↔ (k ≡ k')
told_apart test k k' p q = (λ h. absurd (false≢true (sym p ∙ h)), λ e. ap test e ∙ q)

-- code 2 can be due for two-way operations alone, and code 7 for joins whose combiner is not known
pub two_way_exactly : (k : Kind) → (two_way k ≡ true) ↔ (k ≡ TwoWay)
two_way_exactly Listing = told_apart two_way Listing TwoWay refl refl
two_way_exactly TwoWay = (λ q. refl, λ q. refl)
two_way_exactly (Combining known) = told_apart two_way (Combining known) TwoWay refl refl
two_way_exactly Selection = told_apart two_way Selection TwoWay refl refl

pub unknown_exactly : (k : Kind) → (unknown_combiner k ≡ true) ↔ (k ≡ Combining false)
unknown_exactly Listing = told_apart unknown_combiner Listing (Combining false) refl refl
unknown_exactly TwoWay = told_apart unknown_combiner TwoWay (Combining false) refl refl
unknown_exactly (Combining true) = told_apart unknown_combiner (Combining true) (Combining false) refl refl
unknown_exactly (Combining false) = (λ q. refl, λ q. refl)
unknown_exactly Selection = told_apart unknown_combiner Selection (Combining false) refl refl

-- lists that the form checker passed are well formed with their values too
pub lists_formed : {P : Type 0} {w : Width P} {k : Kind} {l : Lent P} → Formed w k l → AllWellFormed w.points (lists w l)
lists_formed {w = w} {l = l} f = formed_values (keys w l.starts) (keys w l.ends) (λ i. i) (λ i. get_or l.values i (pos 0)) w.points 0 l.counts f.formed

-- two answers that conform to one outcome are equal
pub determined : {C : Type 0} (o o' e : Outcome C) → o ≡ e → o' ≡ e → (o.answer ≡ o'.answer) × (o.columns ≡ o'.columns)
determined o o' e p q = (cc, cc)
