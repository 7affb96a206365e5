-- Forms that were accepted are as the logic asks.
use Rattle.std.proofs.Common.{◌≡◌, ◌≢◌, ℕ, List, [], ◌∷◌, true, Option, Some, None, refl, sym, inl, inr}
use Rattle.std.specs.Prelude.{◌⊎◌, is_some, option_and_then}
use Rattle.model_terms.specs.declared.rule.Mode.{Mode}
use Rattle.model_terms.specs.declared.rule.Mode.TheVariants.{Executable, Logic}
use Rattle.model_terms.specs.Cores.{Core, Cores, Var, Const, If, Let, Mv, MvLet, StobjLet, WithLocal, MustBeEqual, Call, none, more}
use Rattle.model_terms.specs.Worlds.{World, Definition, Out, Scope, Function, Descriptor, AbstractDescriptor, Primitive, Defined, Macro, Constant, Concrete, Generated, Abstract, OfAbstract, Named, Signed, definition}
use Rattle.model_terms.specs.Classes.{class_in, is_stobj_name}
use Rattle.model_terms.specs.Nested.{with_local_holds}
use Rattle.model_terms.specs.Sites.{one_ordinary, here, first_kind, other_kinds, formal_stobj, actual_expected}
use Rattle.model_terms.specs.Faults.{first_fault}
use Rattle.model_terms_laws.specs.Laws.{AllHold}
use Rattle.model_accepted.specs.Threaded.{formal_entries}
use Rattle.model_lawful.specs.Lawful.{WasChecked, WasAdmitted}
use Rattle.model_accepted.specs.Accepted.{Accepted, PartsAccepted, ActualsAccepted}
use Rattle.model_accepted.proofs.AcceptLemmas.{accepted_first, of_if, of_let, of_mv, of_mv_let, of_stobj_let, of_with_local, of_must_be_equal, of_call, s14, not_false, both_true, true_false}
use Rattle.model_expansion_forms.specs.Nodes.{EachNode, AllNodes, HasSeveral, HasConstant, IsBelow}
use Rattle.model_follows.specs.FollowedWorlds.{HasCreator, HasAbstractCreator, IsSuited, AreSuited}
use Rattle.model_made_logic.specs.Known.{KnowsForm}
use Rattle.model_made_logic.proofs.StockLemmas.{IsStocked, stocked_creators}

-- what makes a stobj of this name
abbrev CanBeMade : World → ℕ → Type 0
CanBeMade w x = HasCreator w x ⊎ HasAbstractCreator w x

module _ (c w : World) (n : ℕ) (mode : Mode) (makes : (stobj : ℕ) (names : List ℕ) (producer body : Core) (scope : Scope) (formal : Option ℕ) (expected : List Out)
    → AllHold c mode (here (WithLocal stobj names producer body) scope formal expected) → CanBeMade w stobj) where
  mutual
    unfolding IsSuited AreSuited

    suited_of : (f : Core) (scope : Scope) (formal : Option ℕ) (expected : List Out) → Accepted c mode scope f formal expected → KnowsForm n f → EachNode HasSeveral f → IsSuited w n f
    suited_of (Var x) scope formal expected all k h = tt
    suited_of (Const o) scope formal expected all k h = k
    suited_of (If a b d) scope formal expected all k h =
        let parts = of_if c mode scope formal expected a b d all in
        (suited_of a _ _ _ parts.0 k.1 h.1, suited_of b _ _ _ parts.1 k.2 h.2, suited_of d _ _ _ parts.2 k.3 h.3)
    suited_of (Let names bound body) scope formal expected all k h =
        let parts = of_let c mode scope formal expected names bound body all in (parts_suited bound _ _ parts.0 k.1 h.1, suited_of body _ _ _ parts.1 k.2 h.2)
    suited_of (Mv parts) scope formal expected all k h = (h.0, parts_suited parts _ _ (of_mv c mode scope formal expected parts all) k.1 h.1)
    suited_of (MvLet names bound body) scope formal expected all k h =
        let parts = of_mv_let c mode scope formal expected names bound body all in (h.0, suited_of bound _ _ _ parts.0 k.1 h.1, suited_of body _ _ _ parts.1 k.2 h.2)
    suited_of (StobjLet names bound vars producer consumer) scope formal expected all k h =
        let parts = of_stobj_let c mode scope formal expected names bound vars producer consumer all in (suited_of producer _ _ _ parts.0 k.2 h.2, suited_of consumer _ _ _ parts.1 k.3 h.3)
    suited_of (WithLocal stobj names producer body) scope formal expected all k h =
        let parts = of_with_local c mode scope formal expected stobj names producer body all in
        (h.0, makes stobj names producer body scope formal expected all.0, suited_of producer _ _ _ parts.0 k.1 h.1, suited_of body _ _ _ parts.1 k.2 h.2)
    suited_of (MustBeEqual logic exec) scope formal expected all k h = suited_of logic _ _ _ (of_must_be_equal c mode scope formal expected logic exec all).0 k.1 h.1
    suited_of (Call f actuals) scope formal expected all k h = actuals_suited actuals _ _ (of_call c mode scope formal expected f actuals all) k.1 h.1

    parts_suited : (fs : Cores) (scope : Scope) (kinds : List Out) → PartsAccepted c mode scope kinds fs → AllNodes (HasConstant (IsBelow n)) fs → AllNodes HasSeveral fs → AreSuited w n fs
    parts_suited none scope kinds all k h = tt
    parts_suited (more f fs) scope kinds all k h = (suited_of f scope None (first_kind kinds ∷ []) all.0 k.0 h.0, parts_suited fs scope (other_kinds kinds) all.1 k.1 h.1)

    actuals_suited : (fs : Cores) (scope : Scope) (ins : List Out) → ActualsAccepted c mode scope ins fs → AllNodes (HasConstant (IsBelow n)) fs → AllNodes HasSeveral fs → AreSuited w n fs
    actuals_suited none scope ins all k h = tt
    actuals_suited (more f fs) scope ins all k h =
        (suited_of f scope (formal_stobj (first_kind ins)) (actual_expected (first_kind ins) f) all.0 k.0 h.0, actuals_suited fs scope (other_kinds ins) all.1 k.1 h.1)

-- a local stobj is one of the world of the check
local_object : (c : World) (scope : Scope) (expected : List Out) (stobj : ℕ) (names : List ℕ) (producer : Core) → with_local_holds c scope expected stobj names producer ≡ true → is_stobj_name c stobj ≡ true
unfolding with_local_holds
local_object c scope expected stobj names producer e = (both_true (is_stobj_name c stobj) _ e).0

executable_not_logic : Executable ≢ Logic
executable_not_logic e = cc

-- what makes abstract stobjs
abbrev pub AbstractsCanBeMade : World → Type 0
AbstractsCanBeMade w = (x : ℕ) (d : AbstractDescriptor) → definition w x ≡ Some (Abstract d) → HasAbstractCreator w x

-- stobjs that stand in one world stand in another
record ObjectsStand (c w : World) : Type 0 where
  concrete : (x class : ℕ) (d : Descriptor) → definition c x ≡ Some (Concrete d class) → definition w x ≡ Some (Concrete d class)
  abstract : (x : ℕ) (d : AbstractDescriptor) → definition c x ≡ Some (Abstract d) → definition w x ≡ Some (Abstract d)

-- a stobj of a world can be made in one where it stands
object_made : (c w : World) → ObjectsStand c w → IsStocked w → AbstractsCanBeMade w → (x : ℕ) → is_stobj_name c x ≡ true → CanBeMade w x
object_made c w stand stocked abstracts x e = go (definition c x) refl e
  where
    go : (d : Option Definition) → definition c x ≡ d → is_some (option_and_then class_in d) ≡ true → CanBeMade w x
    go None f g = true_false (sym g)
    go (Some (Primitive name row)) f g = true_false (sym g)
    go (Some (Defined d)) f g = true_false (sym g)
    go (Some (Macro name formals body)) f g = true_false (sym g)
    go (Some (Constant name value)) f g = true_false (sym g)
    go (Some (Concrete d class)) f g = inl (stocked_creators w stocked x class d (stand.concrete x class d f))
    go (Some (Generated d)) f g = true_false (sym g)
    go (Some (Abstract d)) f g = inr (abstracts x d (stand.abstract x d f))
    go (Some (OfAbstract d)) f g = true_false (sym g)
    go (Some (Named name formals)) f g = true_false (sym g)
    go (Some (Signed name formals signature executable)) f g = true_false (sym g)

module _ (w : World) (stocked : IsStocked w) (abstracts : AbstractsCanBeMade w) (n : ℕ) where
  suited_from : (c : World) → ObjectsStand c w → (scope : Scope) (f : Core) (expected : List Out) → first_fault c Executable scope f expected ≡ None → KnowsForm n f → EachNode HasSeveral f → IsSuited w n f
  suited_from c stand scope f expected e known several =
      suited_of c w n Executable (λ stobj names producer body scope formal expected hold.
      object_made c w stand stocked abstracts stobj (local_object c scope expected stobj names producer (not_false (with_local_holds c scope expected stobj names producer) (s14 c Executable (here (WithLocal stobj names producer body) scope formal expected) executable_not_logic hold))))
      f scope None expected (accepted_first c Executable scope f expected e) known several

  pub accepted_suited : (scope : Scope) (f : Core) (expected : List Out) → first_fault w Executable scope f expected ≡ None → KnowsForm n f → EachNode HasSeveral f → IsSuited w n f
  accepted_suited scope f expected e known several = suited_from w (record { concrete = λ x class d e. e; abstract = λ x d e. e }) scope f expected e known several

  -- what was accepted when a function was defined
  pub checked_suited : (formals : List ℕ) (ins : List Out) (f : Core) (expected : List Out) → WasChecked w formals ins f expected → KnowsForm n f → EachNode HasSeveral f → IsSuited w n f
  checked_suited formals ins f expected checked known several =
      suited_from checked.world (record { concrete = λ x class d e. checked.becomes.each x (Concrete d class) e; abstract = λ x d e. checked.becomes.each x (Abstract d) e }) (formal_entries formals ins) f expected checked.accepted known several

  pub function_suited : (f : Function) → WasAdmitted w f → KnowsForm n f.guard × KnowsForm n f.body → EachNode HasSeveral f.guard × EachNode HasSeveral f.body → IsSuited w n f.guard × IsSuited w n f.body
  function_suited f was known several = (
    checked_suited f.formals f.signature.ins f.guard one_ordinary was.guard known.0 several.0,
    checked_suited f.formals f.signature.ins f.body f.signature.outs was.body known.1 several.1,
  )
