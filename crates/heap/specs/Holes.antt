-- An entry of rank v on its way to its place: it has a hole at a place, into which the entry of the next place goes, or the entry itself. Assumes nothing.
use Rattle.std.specs.Prelude.{ℕ, ◌+◌, ◌<◌, ◌≤◌, ◌≡◌}
use Rattle.heap.specs.Order.{Under, Ordered, one, count}

-- in order but for what stands at a place
unfoldable pub OrderedBut : (ℕ → ℕ) → ℕ → ℕ → Type 0
OrderedBut f n place = (p i : ℕ) → Under p i → i < n → (i ≡ place → ⊥) → (p ≡ place → ⊥) → f p ≤ f i

-- g is f but for v at a place
pub record Stored (f g : ℕ → ℕ) (place v : ℕ) : Type 0 where
  pub here : g place ≡ v
  pub other : (i : ℕ) → (i ≡ place → ⊥) → g i ≡ f i

-- g is in order, and has what f has, but v for what stood at a place
pub record Replaced (f g : ℕ → ℕ) (n place v : ℕ) : Type 0 where
  pub ordered : Ordered g n
  pub kept : (e : ℕ) → count e g n + one e (f place) ≡ count e f n + one e v

-- the same, where v sank from the place: what stands before it stays, no other place has less than before, and what is not above v
-- and the place's children is not above what stands there then
pub record Sunk (f g : ℕ → ℕ) (n place v : ℕ) : Type 0 where
  pub replaced : Replaced f g n place v
  pub before : (i : ℕ) → i < place → g i ≡ f i
  pub rises : (i : ℕ) → (i ≡ place → ⊥) → f i ≤ g i
  pub least : (x : ℕ) → x ≤ v → ((i : ℕ) → Under place i → i < n → x ≤ f i) → x ≤ g place

-- v may climb from a place: f is in order but for that place, to whose children neither v nor its parent is above
pub record Lowers (f : ℕ → ℕ) (n place v : ℕ) : Type 0 where
  pub inside : place < n
  pub ordered : OrderedBut f n place
  pub below : (i : ℕ) → Under place i → i < n → v ≤ f i
  pub over : (p i : ℕ) → Under p place → Under place i → i < n → f p ≤ f i

-- v may sink from a place: f is in order, and the place's parent is not above v
pub record Raises (f : ℕ → ℕ) (n place v : ℕ) : Type 0 where
  pub inside : place < n
  pub ordered : Ordered f n
  pub above : (p : ℕ) → Under p place → f p ≤ v

-- c is a child of a place, and no child is less
pub record Chosen (f : ℕ → ℕ) (n place c : ℕ) : Type 0 where
  pub under : Under place c
  pub inside : c < n
  pub least : (i : ℕ) → Under place i → i < n → f c ≤ f i

-- what a climb and a sift give
pub record Climbed (f g : ℕ → ℕ) (place v : ℕ) : Type 0 where
  pub settled : (n : ℕ) → Lowers f n place v → Replaced f g n place v

pub record Sifted (f g : ℕ → ℕ) (n place v : ℕ) : Type 0 where
  pub settled : Raises f n place v → Sunk f g n place v
