-- What a pool holds: at each place the object of the root that stands there, if one does, and the number of spare cells.
use Rattle.std.specs.Prelude.{◌≡◌, ℕ, ◌+◌, ◌-◌, ◌<◌, List, Option, Some, None, ◌⊎◌, refl}
use Rattle.std.specs.List.{sum_by}
use Rattle.std.specs.Option.{unwrap_or}
use Rattle.std.proofs.Common.{get_or}
use Rattle.std.specs.Coded.{Coded, code_by, coded×, coded_list, coded_option, coded_ℕ}
use Rattle.model_objects.specs.Object.{Object, Integer, Symbol, cells}
use Rattle.model_objects.specs.Stored.{object_code}
use Rattle.acl_base.specs.declared.Word.{Word}
use Rattle.acl_base.specs.declared.Word.TheVariants.{Small, Big, Sym, Str, Cons}
use Rattle.acl_heap.specs.Objects.{nothing, IsInteger, IsText, IsPair, IsCellObject}
use Rattle.acl_pool.specs.declared.Root.{Root}

pub record Held : Type 0 where
  pub places : List (Option (Object ℕ))
  pub spare : ℕ

abbrev pub held_code : Coded Held
held_code = code_by (List (Option (Object ℕ)) × ℕ) (coded× (coded_list (coded_option object_code)) coded_ℕ) (λ p. (p.places, p.spare)) (λ p. record { places = p.0; spare = p.1 }) (λ _. refl)

-- the object of the root at a place
abbrev pub standing : Held → ℕ → Object ℕ
standing p n = unwrap_or (get_or p.places n None) nothing

-- the object of a word: a small one is its own, another one stands in the pool
abbrev pub object_of_word : Held → Word → Object ℕ
object_of_word p (Small n) = Integer n
object_of_word p (Big n) = standing p n
object_of_word p (Sym s) = Symbol s.0
object_of_word p (Str n) = standing p n
object_of_word p (Cons n) = standing p n

-- the object of a root
abbrev pub object_at : Held → Root → Object ℕ
object_at p r = object_of_word p r.word

-- a root stands at the place
abbrev pub Stands : Held → ℕ → Type 0
Stands p n = get_or p.places n None ≡ Some (standing p n)

-- the word is a small one, or the word of a root that stands in the pool
abbrev pub IsStanding : Held → Word → Type 0
IsStanding p (Small n) = Unit {0}
IsStanding p (Big n) = Stands p n × IsInteger (standing p n)
IsStanding p (Sym s) = Unit {0}
IsStanding p (Str n) = Stands p n × IsText (standing p n)
IsStanding p (Cons n) = Stands p n × IsPair (standing p n)

-- the cells that the object of a word takes in the pool
abbrev pub cells_in : Held → Word → ℕ
cells_in p (Small n) = 0
cells_in p (Big n) = cells (standing p n)
cells_in p (Sym s) = 0
cells_in p (Str n) = cells (standing p n)
cells_in p (Cons n) = cells (standing p n)

-- the root is live: it is a value of no cells, or it stands in the pool, with its number of cells
pub record IsLive (p : Held) (r : Root) : Type 0 where
  pub stands : IsStanding p r.word
  pub takes : r.cells ≡ cells_in p r.word

-- the cells at a place
abbrev pub cells_at : Option (Object ℕ) → ℕ
cells_at None = 0
cells_at (Some o) = cells o

-- the cells of all roots that stand
abbrev pub used : Held → ℕ
used p = sum_by cells_at p.places

-- the root is live, and stands for what it stood for
pub record Stays (old new : Held) (r : Root) : Type 0 where
  pub live : IsLive new r
  pub same : object_at new r ≡ object_at old r

-- an object was put in and has got the root; all else stays
pub record PutsIn (old new : Held) (r : Root) (o : Object ℕ) : Type 0 where
  pub live : IsLive new r
  pub is : object_at new r ≡ o
  pub takes : r.cells ≡ cells o
  pub fresh : 0 < r.cells → IsLive old r → ⊥
  pub stays : (q : Root) → IsLive old q → Stays old new q
  pub no_more : (q : Root) → IsLive new q → IsLive old q ⊎ (q ≡ r)
  pub uses : used new ≡ used old + cells o
  pub spares : new.spare ≡ old.spare - cells o

-- a root was given back; all else stays
pub record GivesBack (old new : Held) (r : Root) : Type 0 where
  pub gone : 0 < r.cells → IsLive new r → ⊥
  pub stays : (q : Root) → IsLive old q → (q ≡ r → ⊥) → Stays old new q
  pub no_more : (q : Root) → IsLive new q → IsLive old q
  pub value : r.cells ≡ 0 → new ≡ old
  pub uses : used new + r.cells ≡ used old
  pub spares : new.spare ≡ old.spare + r.cells

-- a place holds what a heap's cell may hold: a wide integer, a string or a pair, none too heavy
pub record IsPool (p : Held) : Type 0 where
  pub place : (n : ℕ) (o : Object ℕ) → get_or p.places n None ≡ Some o → IsCellObject o
