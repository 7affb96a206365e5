-- Core forms whose calls are closed: what they need stands, and they are formed.
use Rattle.std.proofs.Common.{◌≡◌, ◌≢◌, ℕ, List, [], ◌∷◌, length, true, Option, Some, None, refl, ap, ◌∙◌}
use Rattle.std.specs.Prelude.{replicate, option_map, option_and_then}
use Rattle.std.proofs.lemmas.List.{length-replicate}
use Rattle.model_terms.specs.declared.rule.Rule.TheVariants.{S16}
use Rattle.model_terms.specs.declared.rule.Mode.{Mode}
use Rattle.model_terms.specs.declared.rule.Mode.TheVariants.{Executable, Logic}
use Rattle.model_terms.specs.Cores.{Core, Cores, Var, Const, If, Let, Mv, MvLet, StobjLet, WithLocal, MustBeEqual, Call, none, more, count, variable, reached, reached_by}
use Rattle.model_terms.specs.Worlds.{World, Definition, definition, Primitive, Defined, Macro, Constant, Concrete, Generated, Abstract, OfAbstract, Named, Signed, Out, Ordinary, Signature, Scope}
use Rattle.model_terms.specs.Classes.{is_stobj_name}
use Rattle.model_terms.specs.Nested.{with_local_holds}
use Rattle.model_terms.specs.Outputs.{signature_in}
use Rattle.model_terms.specs.Sites.{here, first_kind, other_kinds, formal_stobj, actual_expected}
use Rattle.model_terms.specs.Faults.{first_fault}
use Rattle.model_eval_laws.specs.Agreement.{ReachedStands, Closed, AllClosed, AllReached, StandsIn}
use Rattle.model_terms_laws.specs.Laws.{AllHold}
use Rattle.model_accepted.specs.Threaded.{HasArity, IsFormed, AreFormed}
use Rattle.model_accepted.proofs.AcceptLemmas.{true_false, both_true, not_false, accepted_first, of_if, of_let, of_mv, of_mv_let, of_stobj_let, of_with_local, of_must_be_equal, of_call, s14}
use Rattle.model_accepted.specs.Accepted.{Accepted, PartsAccepted, ActualsAccepted}
use Rattle.model_expansion.specs.Expansion.{arity_of}
use Rattle.model_expansion_forms.specs.Nodes.{EachNode, AllNodes, IsOwnCall, HasForms}
use Rattle.model_made.specs.Lawful.{IsWellMade}

-- ---- formed

has_arity : (w : World) (f n : ℕ) (found : Option Definition) → definition w f ≡ found → ((d : Definition) → found ≡ Some d → IsWellMade w d) → arity_of found ≡ Some n → HasArity w f n
has_arity w f n None e made a = cc
has_arity w f n (Some (Primitive name row)) e made a =
    let s : Signature = record { ins = replicate row.arity Ordinary; outs = Ordinary ∷ [] } in
    (s, ap (λ (d : Option Definition). option_and_then signature_in d) e, length-replicate row.arity Ordinary ∙ number a)
  where
    number : arity_of (Some (Primitive name row)) ≡ Some n → row.arity ≡ n
    number h = cc
has_arity w f n (Some (Defined g)) e made a =
    (g.signature, ap (λ (d : Option Definition). option_and_then signature_in d) e, (made (Defined g) refl).0 ∙ number a)
  where
    number : arity_of (Some (Defined g)) ≡ Some n → length g.formals ≡ n
    number h = cc
has_arity w f n (Some (Macro name formals body)) e made a = cc
has_arity w f n (Some (Constant name value)) e made a = cc
has_arity w f n (Some (Concrete d class)) e made a = cc
has_arity w f n (Some (Generated g)) e made a =
    (g.signature, ap (λ (d : Option Definition). option_and_then signature_in d) e, number a)
  where
    number : arity_of (Some (Generated g)) ≡ Some n → length g.signature.ins ≡ n
    number h = cc
has_arity w f n (Some (Abstract d)) e made a = cc
has_arity w f n (Some (OfAbstract g)) e made a =
    (g.signature, ap (λ (d : Option Definition). option_and_then signature_in d) e, (made (OfAbstract g) refl).0 ∙ number a)
  where
    number : arity_of (Some (OfAbstract g)) ≡ Some n → length g.formals ≡ n
    number h = cc
has_arity w f n (Some (Named name formals)) e made a = absurd (made (Named name formals) refl)
has_arity w f n (Some (Signed name formals signature executable)) e made a =
    (signature, ap (λ (d : Option Definition). option_and_then signature_in d) e, made (Signed name formals signature executable) refl ∙ number a)
  where
    number : arity_of (Some (Signed name formals signature executable)) ≡ Some n → length formals ≡ n
    number h = cc

module _ (w : World) (made : (x : ℕ) (d : Definition) → definition w x ≡ Some d → IsWellMade w d) where
  arity_here : (f n : ℕ) → arity_of (definition w f) ≡ Some n → HasArity w f n
  arity_here f n a = has_arity w f n (definition w f) refl (made f) a

  mutual
    unfolding IsFormed AreFormed

    pub formed_of : (f : Core) → EachNode (IsOwnCall w) f → EachNode HasForms f → IsFormed w f
    formed_of (Var x) o h = tt
    formed_of (Const c) o h = tt
    formed_of (If a b c) o h = (formed_of a o.1 h.1, formed_of b o.2 h.2, formed_of c o.3 h.3)
    formed_of (Let names bound body) o h = (h.0, all_formed bound o.1 h.1, formed_of body o.2 h.2)
    formed_of (Mv parts) o h = all_formed parts o.1 h.1
    formed_of (MvLet names bound body) o h = (formed_of bound o.1 h.1, formed_of body o.2 h.2)
    formed_of (StobjLet names bound vars producer consumer) o h = (formed_of producer o.2 h.2, formed_of consumer o.3 h.3)
    formed_of (WithLocal stobj names producer body) o h = (formed_of producer o.1 h.1, formed_of body o.2 h.2)
    formed_of (MustBeEqual logic exec) o h = (formed_of logic o.1 h.1, formed_of exec o.2 h.2)
    formed_of (Call f actuals) o h = (arity_here f (count actuals) o.0, all_formed actuals o.1 h.1)

    pub all_formed : (fs : Cores) → AllNodes (IsOwnCall w) fs → AllNodes HasForms fs → AreFormed w fs
    all_formed none o h = tt
    all_formed (more f fs) o h = (formed_of f o.0 h.0, all_formed fs o.1 h.1)

-- ---- closed

some_stands : (w : World) (x n : ℕ) → arity_of (definition w x) ≡ Some n → StandsIn w x
some_stands w x n a = go (definition w x) refl a
  where
    go : (d : Option Definition) → definition w x ≡ d → arity_of d ≡ Some n → StandsIn w x
    go None e f = cc
    go (Some d) e f = (d, e)

module _ (c w : World) (mode : Mode) (stands : (stobj : ℕ) (names : List ℕ) (producer body : Core) (scope : Scope) (formal : Option ℕ) (expected : List Out)
    → AllHold c mode (here (WithLocal stobj names producer body) scope formal expected) → StandsIn w stobj) where
  reached_stands : (f : ℕ) (n : ℕ) → arity_of (definition w f) ≡ Some n → (actuals : Cores) → ReachedStands (StandsIn w) (reached_by f actuals)
  reached_stands f n a none = tt
  reached_stands f n a (more p none) = go (variable p)
    where
      go : (v : Option ℕ) → ReachedStands (StandsIn w) (option_map (λ q. record { accessor = f; index = None; parent = q }) v)
      go None = tt
      go (Some q) = some_stands w f n a
  reached_stands f n a (more i (more p none)) = go (variable p)
    where
      go : (v : Option ℕ) → ReachedStands (StandsIn w) (option_map (λ q. record { accessor = f; index = Some i; parent = q }) v)
      go None = tt
      go (Some q) = some_stands w f n a
  reached_stands f n a (more i (more p (more q rest))) = tt

  one_reached : (f : Core) → EachNode (IsOwnCall w) f → ReachedStands (StandsIn w) (reached f)
  one_reached (Var x) o = tt
  one_reached (Const v) o = tt
  one_reached (If a b d) o = tt
  one_reached (Let names bound body) o = tt
  one_reached (Mv parts) o = tt
  one_reached (MvLet names bound body) o = tt
  one_reached (StobjLet names bound vars producer consumer) o = tt
  one_reached (WithLocal stobj names producer body) o = tt
  one_reached (MustBeEqual logic exec) o = tt
  one_reached (Call f actuals) o = reached_stands f (count actuals) o.0 actuals

  all_reached : (fs : Cores) → AllNodes (IsOwnCall w) fs → AllReached (StandsIn w) fs
  all_reached none o = tt
  all_reached (more f fs) o = (one_reached f o.0, all_reached fs o.1)

  mutual
    pub closed_of : (f : Core) (scope : Scope) (formal : Option ℕ) (expected : List Out) → Accepted c mode scope f formal expected → EachNode (IsOwnCall w) f → Closed (StandsIn w) f
    closed_of (Var x) scope formal expected all o = tt
    closed_of (Const v) scope formal expected all o = tt
    closed_of (If a b d) scope formal expected all o =
        let parts = of_if c mode scope formal expected a b d all in
        (closed_of a _ _ _ parts.0 o.1, closed_of b _ _ _ parts.1 o.2, closed_of d _ _ _ parts.2 o.3)
    closed_of (Let names bound body) scope formal expected all o =
        let parts = of_let c mode scope formal expected names bound body all in (parts_closed bound _ _ parts.0 o.1, closed_of body _ _ _ parts.1 o.2)
    closed_of (Mv parts) scope formal expected all o = parts_closed parts _ _ (of_mv c mode scope formal expected parts all) o.1
    closed_of (MvLet names bound body) scope formal expected all o =
        let parts = of_mv_let c mode scope formal expected names bound body all in (closed_of bound _ _ _ parts.0 o.1, closed_of body _ _ _ parts.1 o.2)
    closed_of (StobjLet names bound vars producer consumer) scope formal expected all o =
        let parts = of_stobj_let c mode scope formal expected names bound vars producer consumer all in
        (all_reached bound o.1, closed_of producer _ _ _ parts.0 o.2, closed_of consumer _ _ _ parts.1 o.3)
    closed_of (WithLocal stobj names producer body) scope formal expected all o =
        let parts = of_with_local c mode scope formal expected stobj names producer body all in
        (stands stobj names producer body scope formal expected all.0, closed_of producer _ _ _ parts.0 o.1, closed_of body _ _ _ parts.1 o.2)
    closed_of (MustBeEqual logic exec) scope formal expected all o = closed_of logic _ _ _ (of_must_be_equal c mode scope formal expected logic exec all).0 o.1
    closed_of (Call f actuals) scope formal expected all o =
        (some_stands w f (count actuals) o.0, actuals_closed actuals _ _ (of_call c mode scope formal expected f actuals all) o.1)

    parts_closed : (fs : Cores) (scope : Scope) (kinds : List Out) → PartsAccepted c mode scope kinds fs → AllNodes (IsOwnCall w) fs → AllClosed (StandsIn w) fs
    parts_closed none scope kinds all o = tt
    parts_closed (more f fs) scope kinds all o = (closed_of f scope None (first_kind kinds ∷ []) all.0 o.0, parts_closed fs scope (other_kinds kinds) all.1 o.1)

    actuals_closed : (fs : Cores) (scope : Scope) (ins : List Out) → ActualsAccepted c mode scope ins fs → AllNodes (IsOwnCall w) fs → AllClosed (StandsIn w) fs
    actuals_closed none scope ins all o = tt
    actuals_closed (more f fs) scope ins all o =
        (closed_of f scope (formal_stobj (first_kind ins)) (actual_expected (first_kind ins) f) all.0 o.0, actuals_closed fs scope (other_kinds ins) all.1 o.1)

-- a local stobj is one of the world of the check
local_object : (c : World) (scope : Scope) (expected : List Out) (stobj : ℕ) (names : List ℕ) (producer : Core) → with_local_holds c scope expected stobj names producer ≡ true → is_stobj_name c stobj ≡ true
unfolding with_local_holds
local_object c scope expected stobj names producer e = (both_true (is_stobj_name c stobj) _ e).0

executable_not_logic : Executable ≢ Logic
executable_not_logic e = cc

module _ (c w : World) (later : (x : ℕ) → is_stobj_name c x ≡ true → StandsIn w x) where
  -- of a form that was accepted in a function that runs
  pub closed_running : (scope : Scope) (f : Core) (expected : List Out) → first_fault c Executable scope f expected ≡ None → EachNode (IsOwnCall w) f → Closed (StandsIn w) f
  closed_running scope f expected e o =
      closed_of c w Executable (λ stobj names producer body scope formal expected hold.
      later stobj (local_object c scope expected stobj names producer (not_false (with_local_holds c scope expected stobj names producer) (s14 c Executable (here (WithLocal stobj names producer body) scope formal expected) executable_not_logic hold))))
      f scope None expected (accepted_first c Executable scope f expected e) o

  -- in a function that does not run there is no local stobj
  pub closed_logic : (scope : Scope) (f : Core) (expected : List Out) → first_fault c Logic scope f expected ≡ None → EachNode (IsOwnCall w) f → Closed (StandsIn w) f
  closed_logic scope f expected e o =
      closed_of c w Logic (λ stobj names producer body scope formal expected hold. true_false (hold S16)) f scope None expected (accepted_first c Logic scope f expected e) o
