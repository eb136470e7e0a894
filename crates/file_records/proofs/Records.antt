-- The ends of a record at its place: the mark, and then its bytes. Assumes nothing.
use Prim.Native.Nat.{ℕ, ◌+◌, ◌≤◌, ◌<◌}
use mathlib.Core.Path.{◌≡◌, refl, ap, ◌∙◌}
use mathlib.Core.Logic.{◌≢◌}
use mathlib.Core.Bool.{Bool, true, false, cond, ◌&&◌}
use mathlib.Core.List.{List, [], ◌∷◌}
use native.Mathlib.Omega.{arith}
use lib.Dec.{leb, eqb}
use lib.ListN.{length, get_or, drop, length-drop}
use lib.Seq.{drop-drop}
use borrow.Author.Tests.{le-leb, lt-leb, eq-eqb, ne_eqb}
use Rattle.tariff_file.specs.Layout.{sizes, values, Layout, Held}
use Rattle.tariff_file.specs.Reader.{Parsed, stop, got, Fault, judged, one}
use Rattle.tariff_file.specs.declared.Refusal.TheVariants.{CutShort, WrongMark}

module _ (l : Layout) (asked : Held l → Fault) (at : ℕ) where
  pub one_short : (b : List ℕ) → length b < 2 → one l asked at b ≡ stop (CutShort at)
  unfolding one
  one_short [] h = refl
  one_short (x ∷ []) h = refl
  one_short (x ∷ y ∷ b) h = absurd (omega arith)

  -- behind two bytes b is left: whether they are the mark, and whether b is long enough
  abbrev told : List ℕ → Bool → Bool → Parsed (Held l)
  told b m t =
      let n = sizes l.fields in
      let v = values l.fields b in
      cond m (cond t (judged (asked v) at (got v (at + (2 + n)) (drop n b))) (stop (CutShort at))) (stop (WrongMark at))

  one_told : (b : List ℕ) → 2 ≤ length b → (p q t : Bool) → eqb (get_or b 0 0) l.first ≡ p → eqb (get_or b 1 0) l.second ≡ q → leb (sizes l.fields) (length (drop 2 b)) ≡ t →
      one l asked at b ≡ told (drop 2 b) (p && q) t
  unfolding one
  one_told [] h p q t e f g = absurd (omega arith)
  one_told (x ∷ []) h p q t e f g = absurd (omega arith)
  one_told (x ∷ y ∷ b) h p q t e f g = λ i. told b (e i && f i) (g i)

  module _ (b : List ℕ) (h : 2 ≤ length b) where
    pub one_first : get_or b 0 0 ≢ l.first → one l asked at b ≡ stop (WrongMark at)
    one_first q = one_told b h false (eqb (get_or b 1 0) l.second) (leb (sizes l.fields) (length (drop 2 b))) (ne_eqb (get_or b 0 0) l.first q) refl refl

    module _ (m : get_or b 0 0 ≡ l.first) where
      pub one_second : get_or b 1 0 ≢ l.second → one l asked at b ≡ stop (WrongMark at)
      one_second q = one_told b h true false (leb (sizes l.fields) (length (drop 2 b))) (eq-eqb (get_or b 0 0) l.first m) (ne_eqb (get_or b 1 0) l.second q) refl

      module _ (k : get_or b 1 0 ≡ l.second) where
        marked : (t : Bool) → leb (sizes l.fields) (length (drop 2 b)) ≡ t → one l asked at b ≡ told (drop 2 b) true t
        marked t g = one_told b h true true t (eq-eqb (get_or b 0 0) l.first m) (eq-eqb (get_or b 1 0) l.second k) g

        pub one_cut : length b < 2 + sizes l.fields → one l asked at b ≡ stop (CutShort at)
        one_cut q = marked false (lt-leb (sizes l.fields) (length (drop 2 b)) (omega (arith, length-drop 2 b)))

        pub one_there : 2 + sizes l.fields ≤ length b →
            one l asked at b ≡ (let v = values l.fields (drop 2 b) in judged (asked v) at (got v (at + (2 + sizes l.fields)) (drop (2 + sizes l.fields) b)))
        one_there q =
            let n = sizes l.fields in
            let v = values l.fields (drop 2 b) in
            marked true (le-leb n (length (drop 2 b)) (omega (arith, length-drop 2 b)))
            ∙ ap (λ c. judged (asked v) at (got v (at + (2 + n)) c)) (drop-drop n 2 b)
