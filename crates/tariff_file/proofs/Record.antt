-- One law for a record, whatever its layout and what is asked of it. Assumes nothing.
use Prim.Native.Nat.{ℕ, zero, suc, ◌+◌, ◌≤◌, ◌<◌}
use mathlib.Core.Path.{◌≡◌, refl, sym, ap, subst, ◌∙◌}
use mathlib.Core.Bool.{Bool, true, false, cond, ◌&&◌}
use Rattle.std.specs.declared.option.Option.TheVariants.{None, Some}
use mathlib.Core.List.{List, [], ◌∷◌, ◌++◌, append_assoc, append-nil}
use native.Mathlib.Omega.{arith}
use lib.Dec.{leb, eqb}
use lib.ListN.{length, take, drop, length-append, length-take, length-drop, take-append-drop}
use lib.Seq.{take_at, drop_at, take-add, length-take-le}
use borrow.Author.Tests.{leb-true, le-leb, lt-leb, eqb-true, eq-eqb}
use Rattle.many_way_rules.specs.Sheet.{flat}
use Rattle.tariff_file.specs.Layout.{Bytes, Field, size, sizes, Values, AllHold, field_bytes, field_value, values_bytes, values, Layout, Held, record_bytes}
use Rattle.tariff_file.specs.Reader.{stop, got, Fault, judged, one, record_at}
use Rattle.tariff_file.specs.declared.Refusal.TheVariants.{CutShort, WrongMark}
use Rattle.tariff_file.proofs.Number.{Sized, field_long, field_back, field_exact, field_are_bytes}
use Rattle.tariff_file.proofs.Sequence.{Reads, Split, Only, Format, record_first, bytes_after, bytes_both}

abbrev pub AllSized : List Field → Type 0
AllSized [] = Unit {0}
AllSized (f ∷ fs) = Sized f × AllSized fs

pub bytes_take : (n : ℕ) (b : List ℕ) → Bytes b → Bytes (take n b)
bytes_take zero b y = tt
bytes_take (suc n) [] y = tt
bytes_take (suc n) (x ∷ b) y = (y.0, bytes_take n b y.1)

bytes_drop : (n : ℕ) (b : List ℕ) → Bytes b → Bytes (drop n b)
bytes_drop n b y = bytes_after (take n b) (drop n b) (subst Bytes (sym (take-append-drop n b)) y)

pub values_long : (fs : List Field) (v : Values fs) → length (values_bytes fs v) ≡ sizes fs
unfolding values_bytes
values_long [] v = refl
values_long (f ∷ fs) v = length-append (field_bytes f v.0) (values_bytes fs v.1) ∙ (λ i. field_long f v.0 i + values_long fs v.1 i)

values_back : (fs : List Field) → AllSized fs → (v : Values fs) → AllHold fs v → (more : List ℕ) → values fs (values_bytes fs v ++ more) ≡ v
unfolding values_bytes values
values_back [] s v h more = refl
values_back (f ∷ fs) s v h more =
    let a = field_bytes f v.0 in
    let c = values_bytes fs v.1 in
    let e : (a ++ c) ++ more ≡ a ++ (c ++ more) = append_assoc a c more in
    let t : take (size f) ((a ++ c) ++ more) ≡ a = ap (take (size f)) e ∙ take_at a (c ++ more) (size f) (field_long f v.0) in
    let d : drop (size f) ((a ++ c) ++ more) ≡ c ++ more = ap (drop (size f)) e ∙ drop_at a (c ++ more) (size f) (field_long f v.0) in
    let first = ap (field_value f) t ∙ field_back f s.0 v.0 h.0 in
    let rest = ap (values fs) d ∙ values_back fs s.1 v.1 h.1 more in
    (λ i. (first i, rest i))

values_exact : (fs : List Field) → AllSized fs → (b : List ℕ) → Bytes b → sizes fs ≤ length b → (values_bytes fs (values fs b) ≡ take (sizes fs) b) × AllHold fs (values fs b)
unfolding values_bytes values
values_exact [] s b y h = (refl, tt)
values_exact (f ∷ fs) s b y h =
    let first = field_exact f s.0 (take (size f) b) (bytes_take (size f) b y) (length-take-le (size f) b (omega arith)) in
    let rest = values_exact fs s.1 (drop (size f) b) (bytes_drop (size f) b y) (omega (arith, length-drop (size f) b)) in
    ((λ i. first.0 i ++ rest.0 i) ∙ sym (take-add (size f) (sizes fs) b), (first.1, rest.1))

values_are_bytes : (fs : List Field) → AllSized fs → (v : Values fs) → AllHold fs v → Bytes (values_bytes fs v)
unfolding values_bytes
values_are_bytes [] s v h = tt
values_are_bytes (f ∷ fs) s v h = bytes_both (field_bytes f v.0) (values_bytes fs v.1) (field_are_bytes f s.0 v.0 h.0) (values_are_bytes fs s.1 v.1 h.1)

pub record_is_bytes : (l : Layout) → AllSized l.fields → l.first < 256 → l.second < 256 → (v : Held l) → AllHold l.fields v → Bytes (record_bytes l v)
unfolding record_bytes
record_is_bytes l s a b v h = (a, (b, values_are_bytes l.fields s v h))

module _ (l : Layout) (asked : Held l → Fault) where
  one_fine : (at : ℕ) (b : List ℕ) (v : Held l) → sizes l.fields ≤ length b → values l.fields b ≡ v → asked v ≡ None →
      one l asked at (l.first ∷ l.second ∷ b) ≡ got v (at + (2 + sizes l.fields)) (drop (sizes l.fields) b)
  unfolding one
  one_fine at b v h e q =
      let s = sizes l.fields in
      let g : asked (values l.fields b) ≡ None = ap asked e ∙ q in
      (λ i. cond (eq-eqb l.first l.first refl i && eq-eqb l.second l.second refl i)
      (cond (le-leb s (length b) h i) (judged (g i) at (got (e i) (at + (2 + s)) (drop s b))) (stop (CutShort at)))
      (stop (WrongMark at)))

  one_short : (at : ℕ) (b : List ℕ) → length b < sizes l.fields → one l asked at (l.first ∷ l.second ∷ b) ≡ stop (CutShort at)
  unfolding one
  one_short at b h =
      let s = sizes l.fields in
      let v = values l.fields b in
      (λ i. cond (eq-eqb l.first l.first refl i && eq-eqb l.second l.second refl i)
      (cond (lt-leb s (length b) h i) (judged (asked v) at (got v (at + (2 + s)) (drop s b))) (stop (CutShort at)))
      (stop (WrongMark at)))

  abbrev pub Fine : Held l → Type 0
  Fine v = AllHold l.fields v × (asked v ≡ None)

  abbrev pub single : Held l → List (List ℕ)
  single v = record_bytes l v ∷ []

  module _ (sized : AllSized l.fields) where
    one_reads : (v : Held l) → Fine v → Reads (one l asked) v (single v)
    unfolding record_bytes one
    one_reads v h = record { whole = whole; front = front }
      where
        long : length (values_bytes l.fields v) ≡ sizes l.fields
        long = values_long l.fields v

        whole : (at : ℕ) (more : List ℕ) → one l asked at (flat (single v) ++ more) ≡ got v (at + length (flat (single v))) more
        whole at more =
            let body = values_bytes l.fields v in
            let e : (body ++ []) ++ more ≡ body ++ more = ap (λ (b : List ℕ). b ++ more) (append-nil body) in
            let z : at + (2 + sizes l.fields) ≡ at + suc (suc (length (body ++ []))) = omega (arith, long, ap length (append-nil body)) in
            (λ i. one l asked at (l.first ∷ l.second ∷ e i))
            ∙ one_fine at (body ++ more) v (omega (arith, long, length-append body more)) (values_back l.fields sized v h.0 more) h.1
            ∙ (λ i. got v (z i) (drop_at body more (sizes l.fields) long i))

        short : (at k : ℕ) → k < length (flat (single v)) → one l asked at (take k (flat (single v))) ≡ stop (CutShort at)
        short at zero k = refl
        short at (suc zero) k = refl
        short at (suc (suc k)) h =
            let body = values_bytes l.fields v in
            one_short at (take k (body ++ [])) (omega (arith, long, ap length (append-nil body), length-take k (body ++ [])))

        front : (at k : ℕ) → k < length (flat (single v)) → one l asked at (take k (flat (single v))) ≡ stop (CutShort (at + record_at k (single v)))
        front at k h =
            let z : at ≡ at + record_at k (single v) = omega (arith, record_first k (record_bytes l v) [] (omega (arith, ap length (append-nil (record_bytes l v))))) in
            short at k h ∙ ap (λ (j : ℕ). stop (CutShort j)) z

    one_only : Only (one l asked) (λ v rs. (rs ≡ single v) × Fine v)
    unfolding one record_bytes
    one_only at [] v past more y e = cc
    one_only at (a ∷ []) v past more y e = cc
    one_only at (a ∷ c ∷ b) v past more y e = go (eqb a l.first) refl (eqb c l.second) refl (leb (sizes l.fields) (length b)) refl (asked (values l.fields b)) refl e
      where
        go : (p : Bool) → eqb a l.first ≡ p → (q : Bool) → eqb c l.second ≡ q → (t : Bool) → leb (sizes l.fields) (length b) ≡ t → (f : Fault) → asked (values l.fields b) ≡ f
            → cond (p && q) (cond t (judged f at (got (values l.fields b) (at + (2 + sizes l.fields)) (drop (sizes l.fields) b))) (stop (CutShort at))) (stop (WrongMark at)) ≡ got v past more
            → Split (λ v rs. (rs ≡ single v) × Fine v) at (a ∷ c ∷ b) v past more
        go true ep true eq true et None ef e =
            let s = sizes l.fields in
            let w = values l.fields b in
            let x = values_exact l.fields sized b y.1.1 (leb-true s (length b) et) in
            let ev : w ≡ v = cc in
            let em : drop s b ≡ more = cc in
            let el : at + (2 + s) ≡ past = cc in
            let body = values_bytes l.fields v in
            let eb : body ≡ take s b = ap (values_bytes l.fields) (sym ev) ∙ x.0 in
            let split : b ≡ (body ++ []) ++ more = sym (take-append-drop s b) ∙ (λ i. (sym eb ∙ sym (append-nil body)) i ++ em i) in
            record {
              records = single v;
              fits = (refl, (subst (AllHold l.fields) ev x.1, ap asked (sym ev) ∙ ef));
              whole = λ i. eqb-true a l.first ep i ∷ eqb-true c l.second eq i ∷ split i;
              place = omega (arith, el, values_long l.fields v, ap length (append-nil body));
            }
        go true ep true eq true et (Some r) ef e = cc
        go true ep true eq false et f ef e = cc
        go true ep false eq t et f ef e = cc
        go false ep q eq t et f ef e = cc

    pub one_format : Format (one l asked) single Fine
    one_format = record { reads = one_reads; only = one_only }
