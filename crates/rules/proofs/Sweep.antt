-- The sweep: n ranges give 2n events, strictly ordered, and any ordered listing of the same events is that one. Assumes nothing.
use Prim.Native.Nat.{ℕ, suc, ◌+◌, ◌*◌, ◌≤◌, ◌<◌}
use mathlib.Core.Path.{◌≡◌, refl, sym, ap, ◌∙◌, subst}
use mathlib.Core.Logic.{◌↔◌, ◌⊎◌, inl, inr, ◌≢◌}
use mathlib.Core.Bool.{Bool, true, false, cond, ◌&&◌, ◌||◌, true≢false, false≢true}
use mathlib.Core.List.{List, [], ◌∷◌, ◌++◌}
use native.Mathlib.Omega.{arith}
use lib.Dec.{ltb, eqb}
use lib.ListN.{length, length-append}
use borrow.Author.Tests.{ltb-true, ltb-false, eqb-true, eqb-false}
use Rattle.rules.specs.Piece.{Piece, Within, AllWellFormed}
use Rattle.rules.specs.Sweep.{Event, starts, ends, lex, point, kind, list, before, put, sort, own, listed, events, All, In, Ordered}
use Rattle.rules.specs.Proving.Below.{size}
use Rattle.rules.specs.Proving.Moments.{moment, Before, Sorted}
use Rattle.rules.proofs.At.{le_or_lt, within_le}

lex_true : (a b : ℕ) (r : Bool) → lex a b r ≡ true → (a < b) ⊎ ((a ≡ b) × (r ≡ true))
lex_true a b r = go (ltb a b) (eqb a b) refl refl
  where
    go : (s t : Bool) → ltb a b ≡ s → eqb a b ≡ t → (s || (t && r)) ≡ true → (a < b) ⊎ ((a ≡ b) × (r ≡ true))
    go true t e u q = inl (ltb-true a b e)
    go false true e u q = inr (eqb-true a b u, q)
    go false false e u q = absurd (false≢true q)

lex_false : (a b : ℕ) (r : Bool) → lex a b r ≡ false → (b < a) ⊎ ((a ≡ b) × (r ≡ false))
lex_false a b r = go (ltb a b) (eqb a b) refl refl
  where
    go : (s t : Bool) → ltb a b ≡ s → eqb a b ≡ t → (s || (t && r)) ≡ false → (b < a) ⊎ ((a ≡ b) × (r ≡ false))
    go true t e u q = absurd (true≢false q)
    go false true e u q = inr (eqb-true a b u, q)
    go false false e u q = inl (omega (arith, ltb-false a b e, eqb-false a b u))

module _ {A : Type 0} where
  pub kind_small : (e : Event A) → kind e ≤ 1
  kind_small (starts p i v) = omega arith
  kind_small (ends p i) = omega arith

  -- two events of one list stand apart
  abbrev pub Later : Event A → Event A → Type 0
  Later a b = list a ≡ list b → moment a < moment b

  -- the events of each list stand in order
  abbrev pub InTurn : List (Event A) → Type 0
  InTurn [] = Unit {0}
  InTurn (e ∷ es) = All (Later e) es × InTurn es

  module _ (a b : Event A) where
    pub before_true : before a b ≡ true → Before a b
    before_true e = go (lex_true _ _ _ e)
      where
        then : (kind a < kind b) ⊎ ((kind a ≡ kind b) × (ltb (list a) (list b) ≡ true)) → point a ≡ point b → Before a b
        then (inl k) p = record { no_later = omega arith; tie = λ q. omega arith }
        then (inr k) p = record { no_later = omega arith; tie = λ q. ltb-true _ _ k.1 }

        go : (point a < point b) ⊎ ((point a ≡ point b) × (lex (kind a) (kind b) (ltb (list a) (list b)) ≡ true)) → Before a b
        go (inl p) = record { no_later = omega (arith, kind_small a, kind_small b); tie = λ q. omega (arith, kind_small a, kind_small b) }
        go (inr p) = then (lex_true _ _ _ p.1) p.0

    -- where a is not before b, and does not stand apart from it as the earlier of one list, b is before a
    pub before_false : before a b ≡ false → Later a b → Before b a
    before_false e apart = go (lex_false _ _ _ e)
      where
        then : (kind b < kind a) ⊎ ((kind a ≡ kind b) × (ltb (list a) (list b) ≡ false)) → point a ≡ point b → Before b a
        then (inl k) p = record { no_later = omega arith; tie = λ q. omega arith }
        then (inr k) p =
            let ne : list a ≢ list b = λ q. omega (arith, apart q) in
            let le : list b ≤ list a = ltb-false _ _ k.1 in
            record { no_later = omega arith; tie = λ q. omega arith }

        go : (point b < point a) ⊎ ((point a ≡ point b) × (lex (kind a) (kind b) (ltb (list a) (list b)) ≡ false)) → Before b a
        go (inl p) = record { no_later = omega (arith, kind_small a, kind_small b); tie = λ q. omega (arith, kind_small a, kind_small b) }
        go (inr p) = then (lex_false _ _ _ p.1) p.0

  -- the two cases of `put`
  module _ (e x : Event A) (xs : List (Event A)) (P : List (Event A) → Type 0) (first : Before e x → P (e ∷ x ∷ xs)) (second : (Later e x → Before x e) → P (x ∷ put e xs)) where
    pub put_cases : P (put e (x ∷ xs))
    put_cases = go (before e x) refl
      where
        go : (t : Bool) → before e x ≡ t → P (cond t (e ∷ x ∷ xs) (x ∷ put e xs))
        go true q = first (before_true e x q)
        go false q = second (before_false e x q)

  before_trans : (a b c : Event A) → Before a b → Before b c → Before a c
  before_trans a b c p q =
      record {
        no_later = omega arith;
        tie = λ t. let i = p.tie (omega arith) in let j = q.tie (omega arith) in omega arith;
      }

  pub all_map : {P Q : Event A → Type 0} → ((e : Event A) → P e → Q e) → (es : List (Event A)) → All P es → All Q es
  all_map g [] a = tt
  all_map g (e ∷ es) a = (g e a.0, all_map g es a.1)

  pub all_both : {P Q R : Event A → Type 0} → ((e : Event A) → P e → Q e → R e) → (es : List (Event A)) → All P es → All Q es → All R es
  all_both g [] a b = tt
  all_both g (e ∷ es) a b = (g e a.0 b.0, all_both g es a.1 b.1)

  pub all_append : (P : Event A → Type 0) (es fs : List (Event A)) → All P es → All P fs → All P (es ++ fs)
  all_append P [] fs a b = b
  all_append P (e ∷ es) fs a b = (a.0, all_append P es fs a.1 b)

  pub all_right : (P : Event A → Type 0) (es fs : List (Event A)) → All P (es ++ fs) → All P fs
  all_right P [] fs a = a
  all_right P (e ∷ es) fs a = all_right P es fs a.1

  pub all_in : (P : Event A → Type 0) (e : Event A) (es : List (Event A)) → All P es → In e es → P e
  all_in P e [] a x'' = elim x'' [ ]
  all_in P e (x ∷ xs) a (inl q) = subst P (sym q) a.0
  all_in P e (x ∷ xs) a (inr i) = all_in P e xs a.1 i

  all_put : (P : Event A → Type 0) (e : Event A) (es : List (Event A)) → P e → All P es → All P (put e es)
  all_put P e [] p a = (p, tt)
  all_put P e (x ∷ xs) p a = put_cases e x xs (All P) (λ b. (p, a)) (λ b. (a.0, all_put P e xs p a.1))

  pub all_sort : (P : Event A → Type 0) (es : List (Event A)) → All P es → All P (sort es)
  all_sort P [] a = tt
  all_sort P (e ∷ es) a = all_put P e (sort es) a.0 (all_sort P es a.1)

  put_sorted : (e : Event A) (es : List (Event A)) → Sorted es → All (Later e) es → Sorted (put e es)
  put_sorted e [] s a = (tt, tt)
  put_sorted e (x ∷ xs) s a =
      put_cases e x xs Sorted
      (λ b. ((b, all_map (λ y c. before_trans e x y b c) xs s.0), s))
      (λ b. (all_put (Before x) e xs (b a.0) s.0, put_sorted e xs s.1 a.1))

  pub sort_sorted : (es : List (Event A)) → InTurn es → Sorted (sort es)
  sort_sorted [] t = tt
  sort_sorted (e ∷ es) t = put_sorted e (sort es) (sort_sorted es t.1) (all_sort (Later e) es t.0)

  pub sorted_right : (es fs : List (Event A)) → Sorted (es ++ fs) → Sorted fs
  sorted_right [] fs s = s
  sorted_right (e ∷ es) fs s = sorted_right es fs s.1

  put_length : (e : Event A) (es : List (Event A)) → length (put e es) ≡ suc (length es)
  put_length e [] = refl
  put_length e (x ∷ xs) = put_cases e x xs (λ l. length l ≡ suc (length (x ∷ xs))) (λ b. refl) (λ b. ap suc (put_length e xs))

  pub sort_length : (es : List (Event A)) → length (sort es) ≡ length es
  sort_length [] = refl
  sort_length (e ∷ es) = put_length e (sort es) ∙ ap suc (sort_length es)

  put_has : (e : Event A) (es : List (Event A)) → In e (put e es)
  put_has e [] = inl refl
  put_has e (x ∷ xs) = put_cases e x xs (In e) (λ b. inl refl) (λ b. inr (put_has e xs))

  put_keeps : (e f : Event A) (es : List (Event A)) → In f es → In f (put e es)
  put_keeps e f [] x' = elim x' [ ]
  put_keeps e f (x ∷ xs) (inl q) = put_cases e x xs (In f) (λ b. inr (inl q)) (λ b. inl q)
  put_keeps e f (x ∷ xs) (inr i) = put_cases e x xs (In f) (λ b. inr (inr i)) (λ b. inr (put_keeps e f xs i))

  pub sort_keeps : (e : Event A) (es : List (Event A)) → In e es → In e (sort es)
  sort_keeps e [] x' = elim x' [ ]
  sort_keeps e (x ∷ xs) (inl q) = subst (λ y. In y (put x (sort xs))) (sym q) (put_has x (sort xs))
  sort_keeps e (x ∷ xs) (inr i) = put_keeps x e (sort xs) (sort_keeps e xs i)

  self : (es : List (Event A)) → All (λ e. In e es) es
  self [] = tt
  self (e ∷ es) = (inl refl, all_map (λ x i. inr i) es (self es))

  pub sort_in : (e : Event A) (es : List (Event A)) → In e (sort es) → In e es
  sort_in e es = all_in (λ x. In x es) e (sort es) (all_sort (λ x. In x es) es (self es))

  pub clash : (a b : Event A) → Before a b → Before b a → ⊥
  clash a b p q = let i = p.tie (omega arith) in let j = q.tie (omega arith) in omega arith

  heads : (x y : Event A) (xs ys : List (Event A)) → All (Before x) xs → All (Before y) ys → In x (y ∷ ys) → In y (x ∷ xs) → x ≡ y
  heads x y xs ys a b (inl q) j = q
  heads x y xs ys a b (inr i) (inl q) = sym q
  heads x y xs ys a b (inr i) (inr j) = absurd (clash x y (all_in (Before x) y xs a j) (all_in (Before y) x ys b i))

  tails : (x y e : Event A) (xs ys : List (Event A)) → x ≡ y → All (Before x) xs → In e xs → In e (y ∷ ys) → In e ys
  tails x y e xs ys q a i (inr j) = j
  tails x y e xs ys q a i (inl r) =
      let b = all_in (Before x) e xs a i in
      let same : x ≡ e = q ∙ sym r in
      absurd (omega (arith, b.tie (ap moment same), ap list same))

  -- what is in strict order is known by its members
  pub sorted_only : (xs ys : List (Event A)) → Sorted xs → Sorted ys → ((e : Event A) → In e xs → In e ys) → ((e : Event A) → In e ys → In e xs) → xs ≡ ys
  sorted_only [] [] s t to back = refl
  sorted_only [] (y ∷ ys) s t to back = absurd (back y (inl refl))
  sorted_only (x ∷ xs) [] s t to back = absurd (to x (inl refl))
  sorted_only (x ∷ xs) (y ∷ ys) s t to back =
      let q = heads x y xs ys s.0 t.0 (to x (inl refl)) (back y (inl refl)) in
      let r = sorted_only xs ys s.1 t.1 (λ e i. tails x y e xs ys q s.0 i (to e (inr i))) (λ e i. tails y x e ys xs (sym q) t.0 i (back e (inr i))) in
      λ i. q i ∷ r i

  pub own_list : (k : ℕ) (l : List (Piece A)) → All (λ e. list e ≡ k) (own k l)
  own_list k [] = tt
  own_list k (x ∷ xs) = (refl, (refl, own_list k xs))

  pub own_point : (k b n : ℕ) (l : List (Piece A)) → Within b n l → All (λ e. point e < n) (own k l)
  own_point k b n [] w = tt
  own_point k b n (x ∷ xs) w = let h = within_le (x.end + 1) n xs w.2 in (omega arith, (omega arith, own_point k (x.end + 1) n xs w.2))

  pub own_from : (k b n : ℕ) (l : List (Piece A)) → Within b n l → All (λ e. 2 * b ≤ moment e) (own k l)
  own_from k b n [] w = tt
  own_from k b n (x ∷ xs) w = (omega arith, (omega arith, all_map (λ e h. omega arith) (own k xs) (own_from k (x.end + 1) n xs w.2)))

  own_in_turn : (k b n : ℕ) (l : List (Piece A)) → Within b n l → InTurn (own k l)
  own_in_turn k b n [] w = tt
  own_in_turn k b n (x ∷ xs) w =
      let rest = own_from k (x.end + 1) n xs w.2 in
      (((λ q. omega arith), all_map (λ e h q. omega arith) (own k xs) rest), (all_map (λ e h q. omega arith) (own k xs) rest, own_in_turn k (x.end + 1) n xs w.2))

  in_turn_append : (es fs : List (Event A)) → All (λ e. All (Later e) fs) es → InTurn es → InTurn fs → InTurn (es ++ fs)
  in_turn_append [] fs a s t = t
  in_turn_append (e ∷ es) fs a s t = (all_append (Later e) es fs s.0 a.0, in_turn_append es fs a.1 s.1 t)

  pub listed_list : (k : ℕ) (ls : List (List (Piece A))) → All (λ e. k ≤ list e) (listed k ls)
  listed_list k [] = tt
  listed_list k (l ∷ ls) =
      all_append (λ e. k ≤ list e) (own k l) (listed (suc k) ls)
      (all_map (λ e q. omega arith) (own k l) (own_list k l))
      (all_map (λ e q. omega arith) (listed (suc k) ls) (listed_list (suc k) ls))

  pub listed_in_turn : (k n : ℕ) (ls : List (List (Piece A))) → AllWellFormed n ls → InTurn (listed k ls)
  listed_in_turn k n [] w = tt
  listed_in_turn k n (l ∷ ls) w =
      in_turn_append (own k l) (listed (suc k) ls)
      (all_map (λ e q. all_map (λ f h r. absurd (omega arith)) (listed (suc k) ls) (listed_list (suc k) ls)) (own k l) (own_list k l))
      (own_in_turn k 0 n l w.0) (listed_in_turn (suc k) n ls w.1)

  own_length : (k : ℕ) (l : List (Piece A)) → length (own k l) ≡ 2 * length l
  own_length k [] = omega arith
  own_length k (x ∷ xs) = omega (arith, own_length k xs)

  listed_length : (k : ℕ) (ls : List (List (Piece A))) → length (listed k ls) ≡ 2 * size ls
  listed_length k [] = omega arith
  listed_length k (l ∷ ls) = omega (arith, length-append (own k l) (listed (suc k) ls), own_length k l, listed_length (suc k) ls)

  -- the order of the rules is the order of moments, then lists
  before_yes : (a b : Event A) → Before a b → before a b ≡ true
  before_yes a b p = go (before a b) refl
    where
      apart : list a ≡ list b → (moment b ≤ moment a) ⊎ (moment a < moment b) → moment a < moment b
      apart q (inl h) = absurd (omega (arith, p.tie (omega arith)))
      apart q (inr h) = h

      go : (t : Bool) → before a b ≡ t → t ≡ true
      go true e = refl
      go false e = absurd (clash a b p (before_false a b e (λ q. apart q (le_or_lt (moment b) (moment a)))))

  pub before_exactly : (a b : Event A) → (before a b ≡ true) ↔ Before a b
  before_exactly a b = (before_true a b, before_yes a b)

  ordered_sorted : (es : List (Event A)) → Ordered es → Sorted es
  ordered_sorted [] o = tt
  ordered_sorted (e ∷ es) o = (all_map (λ x q. before_true e x q) es o.0, ordered_sorted es o.1)

  sorted_ordered : (es : List (Event A)) → Sorted es → Ordered es
  sorted_ordered [] s = tt
  sorted_ordered (e ∷ es) s = (all_map (λ x b. before_yes e x b) es s.0, sorted_ordered es s.1)

  -- no two events tie
  pub before_strict : (a b : Event A) → before a b ≡ true → before b a ≡ true → ⊥
  before_strict a b p q = clash a b (before_true a b p) (before_true b a q)

  pub events_length : (ls : List (List (Piece A))) → length (events ls) ≡ 2 * size ls
  unfolding events
  events_length ls = sort_length (listed 0 ls) ∙ listed_length 0 ls

  module _ (n : ℕ) (ls : List (List (Piece A))) (wf : AllWellFormed n ls) where
    pub events_sorted : Sorted (events ls)
    unfolding events
    events_sorted = sort_sorted (listed 0 ls) (listed_in_turn 0 n ls wf)

    pub events_ordered : Ordered (events ls)
    events_ordered = sorted_ordered (events ls) events_sorted

    pub events_only : (es : List (Event A)) → Ordered es → ((e : Event A) → In e es → In e (listed 0 ls)) → ((e : Event A) → In e (listed 0 ls) → In e es) → es ≡ events ls
    unfolding events
    events_only es o to back = sorted_only es (events ls) (ordered_sorted es o) events_sorted (λ e i. sort_keeps e (listed 0 ls) (to e i)) (λ e i. back e (sort_in e (listed 0 ls) i))
