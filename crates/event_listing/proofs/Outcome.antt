-- From the judgement of what is lent to the outcome of the event listing. Assumes nothing.
use Prim.Native.Nat.{ℕ, ◌*◌, ◌≤◌, ◌<◌}
use mathlib.Core.Path.{◌≡◌, refl, sym}
use mathlib.Core.Bool.{Bool, true, false}
use lib.Dec.{leb}
use native.Mathlib.Omega.{arith}
use lib.ListN.{length}
use borrow.Author.Tests.{le-leb, lt-leb, leb-true, leb-false}
use Rattle.std.specs.declared.result.Result.TheVariants.{Ok, Err}
use Rattle.rules.specs.Lists.{Width, Lent}
use Rattle.rules.specs.Answer.{judge, leaves}
use Rattle.rules.specs.Listed.{Listed, room}
use Rattle.rules.specs.Outcomes.{listing}
use Rattle.rules.specs.declared.Refusal.{Refusal}
use Rattle.rules.specs.declared.Refusal.TheVariants.{NoRoom}
use Rattle.rules.specs.declared.Kind.TheVariants.{Listing}
use Rattle.form.specs.Shape.{Judged}
use Rattle.multiway_sweep.specs.Begins.{events_of}
use Rattle.multiway_sweep.proofs.Begun.{events_count}
use Rattle.event_listing.specs.Listing.{answer_for, Listable, Wrote}

-- the columns d hold what the columns c hold, each for itself
abbrev Alike : {P : Type 0} → Listed P → Listed P → Type 0
Alike d c = (d.kind ≡ c.kind) × (d.point ≡ c.point) × (d.list ≡ c.list) × (d.value ≡ c.value)

given_back : {P : Type 0} {c d : Listed P} → Alike d c → d ≡ c
given_back h i = record { kind = h.0 i; point = h.1 i; list = h.2 i; value = h.3 i }

module _ {P : Type 0} (w : Width P) (l : Lent P) where
  pub refused : {r : Refusal} {c : Listed P} → Judged w Listing l (Err r) → leaves (Err r) c ≡ listing w l c
  unfolding listing
  refused judged = let h = sym judged.is in rw h

  -- nothing is refused
  module _ (judged : Judged w Listing l (Ok tt)) where
    h : judge w Listing l ≡ Ok tt
    h = sym judged.is

    abbrev needed : ℕ
    needed = 2 * length l.starts

    count : length (events_of w l) ≡ needed
    count = events_count (judged.passes refl)

    -- the room is looked at: the events are written where it is enough
    module _ (c : Listed P) {m : ℕ} (r : m ≡ room c) where
      enough : {k : ℕ} → Ok k ≡ answer_for needed m → (needed ≤ m) × (k ≡ needed)
      enough {k} d = go (leb needed m) refl
        where
          go : (t : Bool) → leb needed m ≡ t → (needed ≤ m) × (k ≡ needed)
          go true h = (leb-true needed m h, let e = rw h at d in cc)
          go false h = let e = rw h at d in cc

      scant : {x : Refusal} → Err x ≡ answer_for needed m → (m < needed) × (x ≡ NoRoom needed)
      scant {x} d = go (leb needed m) refl
        where
          go : (t : Bool) → leb needed m ≡ t → (m < needed) × (x ≡ NoRoom needed)
          go true h = let e = rw h at d in cc
          go false h = (leb-false needed m h, let e = rw h at d in cc)

      pub listable : {k : ℕ} → Ok k ≡ answer_for needed m → Listable w l c
      listable d = record { formed = judged.passes refl; enough = omega (arith, count, (enough d).0) }

      -- d is what the columns hold when they are given back
      pub written : {k : ℕ} → Ok k ≡ answer_for needed m → {o : Listed P} → Wrote w l c o → {d : Listed P} → Alike d o → leaves (Ok k) d ≡ listing w l c
      unfolding listing
      written d o s = rw (given_back s, (enough d).1, h, le-leb (length (events_of w l)) (room c) (omega (arith, count, (enough d).0)), o.is, count)

      pub no_room : {x : Refusal} → Err x ≡ answer_for needed m → leaves (Err x) c ≡ listing w l c
      unfolding listing
      no_room d = rw ((scant d).1, h, lt-leb (length (events_of w l)) (room c) (omega (arith, count, (scant d).0)), count)
