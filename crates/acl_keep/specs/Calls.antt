-- What the calls of a keeper say of what is kept.
use Rattle.std.specs.Prelude.{◌≡◌, ℕ, List, [], ◌∷◌, take, Bool, Option}
use Rattle.model_objects.specs.Object.{Object}
use Rattle.model_prims.specs.Kinds.{by_number}
use Rattle.model_lists.specs.Lists.{item}
use Rattle.model_terms.specs.Worlds.{World, GeneratedFunction}
use Rattle.model_eval.specs.Outcomes.{Shown, Guard, StateOf, OutcomeOf, Gives, stops_here}
use Rattle.model_eval.specs.Keeping.{Keeping, Loan, put_all}
use Rattle.model_eval.specs.StobjLayouts.{stobj_layout}
use Rattle.model_eval.specs.GeneratedCalls.{generated}
use Rattle.model_eval.specs.Lending.{is_reached}
use Rattle.acl_heap.specs.Objects.{Objects}
use Rattle.acl_keep.specs.declared.effect.Effect.{Effect}
use Rattle.acl_keep.specs.declared.effect.Effect.TheVariants as effect
use Rattle.acl_keep.specs.Seen.{seen_shown}

-- a call of a generated function, as evaluation has it
pub record Called : Type 0 where
  pub world : World
  pub function : GeneratedFunction
  pub values : List (Shown ℕ)

module _ {O B : Type 0} (keeping : Keeping ℕ O B) where
  -- its outcome from a state
  abbrev pub called_from : Called → StateOf O → OutcomeOf ℕ O
  called_from c state = generated keeping by_number c.function (stobj_layout (λ (o : Object ℕ). o) c.world c.function.stobj) c.values state

  -- the field of a parent has the element of an index, where there is one
  abbrev pub has_child : Option (Object ℕ) → ℕ → ℕ → O → Bool
  has_child index parent field kept = is_reached index (item field (keeping.read kept parent))

-- the outcome that an answer stands for
abbrev pub answered : {O : Type 0} → Objects → Called → Effect → StateOf O → OutcomeOf ℕ O
answered h c effect.Refuses state = stops_here (Guard c.function.name c.values) state
answered h c (effect.Gives value) state = Gives (seen_shown h value ∷ []) state
answered h c (effect.GivesBoth value bound) state = Gives (seen_shown h value ∷ seen_shown h bound ∷ []) state

-- where these things were kept before, a call's outcome is the answer's, on what is kept after it
pub record IsAnswered {O B : Type 0} (keeping : Keeping ℕ O B) (Keeps : O → List B → Type 0) (h : Objects) (c : Called) (answer : Effect) (kept : O) (lefts : List B) : Type 0 where
  pub later : O
  pub keeps : Keeps later lefts
  pub answers : (state : StateOf O) → called_from keeping c (record state { stobjs = kept }) ≡ answered h c answer (record state { stobjs = later })

-- a keeper may be asked for something, on what it keeps
pub record MayBe {O B : Type 0} (Keeps : O → List B → Type 0) (May : O → List B → Type 0) : Type 0 where
  pub kept : O
  pub lefts : List B
  pub keeps : Keeps kept lefts
  pub may : May kept lefts

-- the first of these loans are put, so many, and no other
pub record ArePut {O B : Type 0} (keeping : Keeping ℕ O B) (Keeps : O → List B → Type 0) (n : ℕ) (loans : List (Loan ℕ)) (kept : O) (lefts : List B) : Type 0 where
  pub keeps : Keeps (put_all keeping (take n loans) kept) lefts

-- some of them are
pub record SomeArePut {O B : Type 0} (keeping : Keeping ℕ O B) (Before After : O → List B → Type 0) (loans : List (Loan ℕ)) : Type 0 where
  pub count : ℕ
  pub put : (kept : O) (lefts : List B) → Before kept lefts → ArePut keeping After count loans kept lefts
