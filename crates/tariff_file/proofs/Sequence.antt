-- One law for readers in turn, whatever they read. Assumes nothing.
use Prim.Native.Nat.{ℕ, zero, suc, ◌+◌, ◌-◌, ◌≤◌, ◌<◌}
use mathlib.Core.Path.{◌≡◌, refl, sym, ap, subst, ◌∙◌}
use mathlib.Core.Bool.{Bool, true, false, cond}
use mathlib.Core.List.{List, [], ◌∷◌, ◌++◌, map, append_assoc, append-nil}
use native.Mathlib.Omega.{arith}
use native.Mathlib.Nat.{add-zero}
use lib.Dec.{ltb}
use lib.ListN.{length, take, length-append}
use lib.Seq.{take-append-le, take-append-add}
use borrow.Author.Tests.{ltb-true, ltb-false, lt-ltb, le-ltb}
use Rattle.many_way_rules.specs.Sheet.{flat}
use Rattle.tariff_file.specs.Layout.{Bytes}
use Rattle.tariff_file.specs.Reader.{Parsed, stop, got, Reader, follow, ◌then◌, many, record_at}
use Rattle.tariff_file.specs.declared.Refusal.TheVariants.{CutShort}

pub bytes_after : (a b : List ℕ) → Bytes (a ++ b) → Bytes b
bytes_after [] b y = y
bytes_after (x ∷ a) b y = bytes_after a b y.1

pub bytes_both : (a b : List ℕ) → Bytes a → Bytes b → Bytes (a ++ b)
bytes_both [] b x y = y
bytes_both (c ∷ a) b x y = (x.0, bytes_both a b x.1 y)

pub flat_append : (rs ss : List (List ℕ)) → flat (rs ++ ss) ≡ flat rs ++ flat ss
flat_append [] ss = refl
flat_append (r ∷ rs) ss = ap (λ (l : List ℕ). r ++ l) (flat_append rs ss) ∙ sym (append_assoc r (flat rs) (flat ss))

-- a place in the first record, and one past it
pub record_first : (n : ℕ) (r : List ℕ) (rs : List (List ℕ)) → n < length r → record_at n (r ∷ rs) ≡ 0
record_first n r rs h i = cond (lt-ltb n (length r) h i) 0 (length r + record_at (n - length r) rs)

record_later : (n : ℕ) (r : List ℕ) (rs : List (List ℕ)) → length r ≤ n → record_at n (r ∷ rs) ≡ length r + record_at (n - length r) rs
record_later n r rs h i = cond (le-ltb n (length r) h i) 0 (length r + record_at (n - length r) rs)

-- a place in the records rs, and one past them
record_before : (n : ℕ) (rs ss : List (List ℕ)) → n < length (flat rs) → record_at n (rs ++ ss) ≡ record_at n rs
record_before n [] ss h = omega arith
record_before n (r ∷ rs) ss h = go (ltb n (length r)) refl (record_before (n - length r) rs ss)
  where
    go : (t : Bool) → ltb n (length r) ≡ t → (n - length r < length (flat rs) → record_at (n - length r) (rs ++ ss) ≡ record_at (n - length r) rs) → record_at n (r ∷ (rs ++ ss)) ≡ record_at n (r ∷ rs)
    go true e rest = let l = ltb-true n (length r) e in record_first n r (rs ++ ss) l ∙ sym (record_first n r rs l)
    go false e rest =
        let l = ltb-false n (length r) e in
        record_later n r (rs ++ ss) l ∙ ap (λ (k : ℕ). length r + k) (rest (omega (arith, length-append r (flat rs)))) ∙ sym (record_later n r rs l)

record_past : (m : ℕ) (rs ss : List (List ℕ)) → record_at (length (flat rs) + m) (rs ++ ss) ≡ length (flat rs) + record_at m ss
record_past m [] ss = let z : 0 + m ≡ m = omega arith in ap (λ (k : ℕ). record_at k ss) z ∙ omega arith
record_past m (r ∷ rs) ss =
    let l = length-append r (flat rs) in
    let n = length (r ++ flat rs) + m in
    let z : n - length r ≡ length (flat rs) + m = omega arith in
    record_later n r (rs ++ ss) (omega arith) ∙ ap (λ (k : ℕ). length r + record_at k (rs ++ ss)) z ∙ omega (arith, record_past m rs ss)

-- p reads a from the records rs, whatever follows, and is cut short at the record that a proper front cuts
pub record Reads {A : Type 0} (p : Reader A) (a : A) (rs : List (List ℕ)) : Type 0 where
  pub whole : (at : ℕ) (more : List ℕ) → p at (flat rs ++ more) ≡ got a (at + length (flat rs)) more
  pub front : (at n : ℕ) → n < length (flat rs) → p at (take n (flat rs)) ≡ stop (CutShort (at + record_at n rs))

-- what p reads from bytes is written by records that Q tells of it
pub record Split {A : Type 0} (Q : A → List (List ℕ) → Type 0) (at : ℕ) (b : List ℕ) (a : A) (past : ℕ) (more : List ℕ) : Type 0 where
  pub records : List (List ℕ)
  pub fits : Q a records
  pub whole : b ≡ flat records ++ more
  pub place : past ≡ at + length (flat records)

abbrev pub Only : {A : Type 0} → Reader A → (A → List (List ℕ) → Type 0) → Type 0
Only {A} p Q = (at : ℕ) (b : List ℕ) (a : A) (past : ℕ) (more : List ℕ) → Bytes b → p at b ≡ got a past more → Split Q at b a past more

module _ {A : Type 0} where
  pub reads_got : (a : A) → Reads (got a) a []
  reads_got a = record { whole = λ at more. ap (λ (k : ℕ). got a k more) (sym (add-zero at)); front = λ at n h. absurd (omega arith) }

  pub only_got : (a : A) (Q : A → List (List ℕ) → Type 0) → Q a [] → Only (got a) Q
  only_got a Q q at b c past more y e =
      let ea : a ≡ c = cc in
      let ep : at ≡ past = cc in
      let eb : b ≡ more = cc in
      record { records = []; fits = subst (λ x. Q x []) ea q; whole = eb; place = omega arith }

  module _ {B : Type 0} (p : Reader A) (k : A → Reader B) where
    pub reads_then : (a : A) (c : B) (rs ss : List (List ℕ)) → Reads p a rs → Reads (k a) c ss → Reads (p then k) c (rs ++ ss)
    reads_then a c rs ss hp hk = record { whole = whole; front = λ at n h. front at n h (ltb n (length (flat rs))) refl }
      where
        long : length (flat (rs ++ ss)) ≡ length (flat rs) + length (flat ss)
        long = ap length (flat_append rs ss) ∙ length-append (flat rs) (flat ss)

        whole : (at : ℕ) (more : List ℕ) → (p then k) at (flat (rs ++ ss) ++ more) ≡ got c (at + length (flat (rs ++ ss))) more
        whole at more =
            let e : flat (rs ++ ss) ++ more ≡ flat rs ++ (flat ss ++ more) = ap (λ (l : List ℕ). l ++ more) (flat_append rs ss) ∙ append_assoc (flat rs) (flat ss) more in
            let z : at + length (flat rs) + length (flat ss) ≡ at + length (flat (rs ++ ss)) = omega (arith, long) in
            (λ i. follow (p at (e i)) k)
            ∙ ap (λ r. follow r k) (hp.whole at (flat ss ++ more))
            ∙ hk.whole (at + length (flat rs)) more
            ∙ ap (λ (m : ℕ). got c m more) z

        front : (at n : ℕ) → n < length (flat (rs ++ ss)) → (t : Bool) → ltb n (length (flat rs)) ≡ t → (p then k) at (take n (flat (rs ++ ss))) ≡ stop (CutShort (at + record_at n (rs ++ ss)))
        front at n h true t =
            let l = ltb-true n (length (flat rs)) t in
            let e : take n (flat (rs ++ ss)) ≡ take n (flat rs) = ap (take n) (flat_append rs ss) ∙ take-append-le n (flat rs) (flat ss) (omega arith) in
            (λ i. follow (p at (e i)) k)
            ∙ ap (λ r. follow r k) (hp.front at n l)
            ∙ ap (λ (m : ℕ). stop (CutShort (at + m))) (sym (record_before n rs ss l))
        front at n h false t =
            let l = ltb-false n (length (flat rs)) t in
            let m = n - length (flat rs) in
            let z : n ≡ length (flat rs) + m = omega arith in
            let e : take n (flat (rs ++ ss)) ≡ flat rs ++ take m (flat ss) = (λ i. take (z i) (flat_append rs ss i)) ∙ take-append-add (flat rs) (flat ss) m in
            let w : at + length (flat rs) + record_at m ss ≡ at + record_at n (rs ++ ss) = omega (arith, record_past m rs ss, ap (λ (j : ℕ). record_at j (rs ++ ss)) z) in
            (λ i. follow (p at (e i)) k)
            ∙ ap (λ r. follow r k) (hp.whole at (take m (flat ss)))
            ∙ hk.front (at + length (flat rs)) m (omega (arith, long))
            ∙ ap (λ (j : ℕ). stop (CutShort j)) w

    pub only_then : (Q : A → List (List ℕ) → Type 0) (T : B → List (List ℕ) → Type 0) → Only p Q → ((a : A) (rs : List (List ℕ)) → Q a rs → Only (k a) (λ c ss. T c (rs ++ ss))) → Only (p then k) T
    only_then Q T hp hk at b c past more y e = go (p at b) refl e
      where
        go : (r : Parsed A) → p at b ≡ r → follow r k ≡ got c past more → Split T at b c past more
        go (stop s) q e = cc
        go (got a m x) q e =
            let g = hp at b a m x y q in
            let h = hk a g.records g.fits m x c past more (bytes_after (flat g.records) x (subst Bytes g.whole y)) e in
            let f = flat_append g.records h.records in
            let l : length (flat (g.records ++ h.records)) ≡ length (flat g.records) + length (flat h.records) = ap length f ∙ length-append (flat g.records) (flat h.records) in
            record {
              records = g.records ++ h.records;
              fits = h.fits;
              whole = g.whole ∙ ap (λ (l : List ℕ). flat g.records ++ l) h.whole ∙ sym (append_assoc (flat g.records) (flat h.records) more) ∙ ap (λ (l : List ℕ). l ++ more) (sym f);
              place = omega (arith, h.place, g.place);
            }

-- a format: p reads what is written by the records R, of what Ok tells
pub record Format {A : Type 0} (p : Reader A) (R : A → List (List ℕ)) (Ok : A → Type 0) : Type 0 where
  pub reads : (a : A) → Ok a → Reads p a (R a)
  pub only : Only p (λ a rs. (rs ≡ R a) × Ok a)

pub only_weaken : {A : Type 0} {p : Reader A} {Q T : A → List (List ℕ) → Type 0} → Only p Q → ((a : A) (rs : List (List ℕ)) → Q a rs → T a rs) → Only p T
only_weaken h t at b a past more y e = let g = h at b a past more y e in record { records = g.records; fits = t a g.records g.fits; whole = g.whole; place = g.place }

-- the same format, said otherwise
module _ {A : Type 0} {p : Reader A} {R : A → List (List ℕ)} {Ok : A → Type 0} (R' : A → List (List ℕ)) (Ok' : A → Type 0) where
  pub reformat : Format p R Ok → ((a : A) → R a ≡ R' a) → ((a : A) → Ok a → Ok' a) → ((a : A) → Ok' a → Ok a) → Format p R' Ok'
  reformat law e to from =
      record {
        reads = λ a h. subst (Reads p a) (e a) (law.reads a (from a h));
        only = only_weaken law.only (λ a rs q. (q.0 ∙ e a, to a q.1));
      }

-- where nothing more is read
module _ {A B : Type 0} (p : Reader A) (f : A → B) where
  pub reads_last : (a : A) (rs : List (List ℕ)) → Reads p a rs → Reads (p then (λ x. got (f x))) (f a) rs
  reads_last a rs h = subst (Reads (p then (λ x. got (f x))) (f a)) (append-nil rs) (reads_then p (λ x. got (f x)) a (f a) rs [] h (reads_got (f a)))

  pub only_last : (Q : A → List (List ℕ) → Type 0) (T : B → List (List ℕ) → Type 0) → Only p Q → ((a : A) (rs : List (List ℕ)) → Q a rs → T (f a) rs) → Only (p then (λ x. got (f x))) T
  only_last Q T h t = only_then p (λ x. got (f x)) Q T h (λ a rs q. only_got (f a) (λ c ss. T c (rs ++ ss)) (subst (T (f a)) (sym (append-nil rs)) (t a rs q)))

module _ {A S : Type 0} (p : S → Reader A) (next : S → A → S) (R : A → List (List ℕ)) (Ok : S → A → Type 0) where
  abbrev pub AllOk : S → List A → Type 0
  AllOk s [] = Unit {0}
  AllOk s (x ∷ xs) = Ok s x × AllOk (next s x) xs

  module _ (law : (s : S) → Format (p s) R (Ok s)) where
    many_reads : (s : S) (xs : List A) → AllOk s xs → Reads (many p next (length xs) s) xs (flat (map R xs))
    many_reads s [] h = reads_got []
    many_reads s (x ∷ xs) h =
        let t = next s x in
        let m = many p next (length xs) in
        let rest = reads_last (m t) (λ ys. x ∷ ys) xs (flat (map R xs)) (many_reads t xs h.1) in
        reads_then (p s) (λ a. m (next s a) then (λ ys. got (a ∷ ys))) x (x ∷ xs) (R x) (flat (map R xs)) ((law s).reads x h.0) rest

    many_only : (n : ℕ) (s : S) → Only (many p next n s) (λ xs rs. (rs ≡ flat (map R xs)) × (length xs ≡ n) × AllOk s xs)
    many_only zero s = only_got [] (λ xs rs. (rs ≡ flat (map R xs)) × (length xs ≡ zero) × AllOk s xs) (refl, refl, tt)
    many_only (suc n) s =
        let T : List A → List (List ℕ) → Type 0 = λ xs rs. (rs ≡ flat (map R xs)) × (length xs ≡ suc n) × AllOk s xs in
        only_then (p s) (λ a. many p next n (next s a) then (λ ys. got (a ∷ ys))) (λ a rs. (rs ≡ R a) × Ok s a) T (law s).only
        (λ a rs q. only_last (many p next n (next s a)) (λ ys. a ∷ ys) (λ ys ss. (ss ≡ flat (map R ys)) × (length ys ≡ n) × AllOk (next s a) ys) (λ xs ss. T xs (rs ++ ss)) (many_only n (next s a))
        (λ ys ss u. ((λ i. q.0 i ++ u.0 i), ap suc u.1, (q.1, u.2))))

    pub many_format : (n : ℕ) (s : S) → Format (many p next n s) (λ xs. flat (map R xs)) (λ xs. (length xs ≡ n) × AllOk s xs)
    many_format n s =
        record {
          reads = λ xs h. subst (λ k. Reads (many p next k s) xs (flat (map R xs))) h.0 (many_reads s xs h.1);
          only = only_weaken (many_only n s) (λ xs rs q. (q.0, (q.1, q.2)));
        }
