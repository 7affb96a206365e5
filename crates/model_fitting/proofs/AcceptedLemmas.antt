-- Accepted forms give no stobj that is not in scope.
use Rattle.std.proofs.Common.{◌≡◌, ℕ, List, [], ◌∷◌, ◌++◌, length, Bool, true, false, Option, Some, None, refl, sym, ap, ◌∙◌, subst, arith, inl, inr}
use Rattle.std.specs.Prelude.{◌≢◌, ◌⊎◌, ◌&&◌, ◌||◌, not, nat_eq, is_some, unwrap_or, option_map, option_and_then, option_to_list, if◌then◌else◌}
use Rattle.std.specs.Option.{option_map_or}
use Rattle.std.specs.List.{filter_map}
use Rattle.std.proofs.lemmas.Bool.{eqb-true}
use Rattle.std.proofs.lemmas.List.{length-map}
use Rattle.model_terms.specs.declared.rule.Rule.TheVariants.{S2, S8, S9, S12}
use Rattle.model_terms.specs.declared.rule.Mode.TheVariants.{Executable, Logic}
use Rattle.model_terms.specs.Cores as cores
use Rattle.model_terms.specs.Cores.{Core, Cores, none, more, count}
use Rattle.model_terms.specs.Worlds.{World, Definition, definition, Out, Ordinary, Signature, Scope}
use Rattle.model_terms.specs.Worlds as worlds
use Rattle.model_terms.specs.Classes.{has, repeats, stobjs, is_stobj_name}
use Rattle.model_terms.specs.Scopes.{kind_in, name_kind, name_kinds, binding, without, ordinary_names, other_names, producer_scope, consumer_scope, local_scope, body_scope}
use Rattle.model_terms.specs.Outputs.{signature_in, stobj_actuals, call_outs, outputs, outs}
use Rattle.model_terms.specs.Accessors.{is_internal}
use Rattle.model_terms.specs.Sites.{one_ordinary, parent_in, first_kind, other_kinds, formal_stobj, actual_expected, ins_of}
use Rattle.model_terms.specs.Nested.{same_kinds}
use Rattle.model_terms.specs.Rules.{any_wrong_part}
use Rattle.model_eval_laws.proofs.Lists.{same_number}
use Rattle.model_accepted.specs.Threaded.{HasArity, IsFormed, AreFormed}
use Rattle.model_accepted.specs.StobjScopes.{IsStobj}
use Rattle.model_accepted.specs.Accepted.{Accepted, PartsAccepted, ActualsAccepted}
use Rattle.model_accepted.proofs.AcceptLemmas.{false_true, true_false, both_true, neither, not_false, kinds_same, accepted_first, of_if, of_let, of_mv, of_mv_let, of_stobj_let, of_with_local, of_must_be_equal, of_call, var_kind}
use Rattle.model_accepted.proofs.ScopeLemmas.{some_same, none_some, kind_without, kind_bound, name_is_object, name_is_ordinary, kind_or, has_ordinary, has_object, has_other, local_object}
use Rattle.model_fitting.specs.Giving.{GiveOnlyGiven, HasOwnNames}
use Rattle.model_fitting.specs.Laws.{AcceptedGiveOnlyGiven}
use Rattle.model_fitting.proofs.CallLemmas.{holds_after, holds_first, kind_there, call_gives}

not_logic : Executable ≢ Logic
not_logic e = cc

-- ---- scopes

module _ (w : World) where
  name_own : (x y : ℕ) → name_kind w x ≡ worlds.Stobj y → (y ≡ x) × (is_stobj_name w x ≡ true)
  name_own x y h = by_kind (kind_or w x)
    where
      same : worlds.Stobj x ≡ worlds.Stobj y → y ≡ x
      same e = cc

      never : Ordinary ≡ worlds.Stobj y → (y ≡ x) × (is_stobj_name w x ≡ true)
      never e = cc

      by_kind : (is_stobj_name w x ≡ true) ⊎ (is_stobj_name w x ≡ false) → (y ≡ x) × (is_stobj_name w x ≡ true)
      by_kind (inl o) = (same (sym (name_is_object w x o) ∙ h), o)
      by_kind (inr o) = never (sym (name_is_ordinary w x o) ∙ h)

  -- what is bound in a scope is one of these names, or was there before
  of_bound : (scope : Scope) (xs : List ℕ) (x y : ℕ) → kind_in (binding w scope xs) x ≡ Some (worlds.Stobj y)
      → ((has xs x ≡ true) × (y ≡ x) × (is_stobj_name w x ≡ true)) ⊎ (kind_in scope x ≡ Some (worlds.Stobj y))
  of_bound scope xs x y h = go (has xs x) refl (subst (λ (k : Option Out). k ≡ Some (worlds.Stobj y)) (kind_bound w scope xs x) h)
    where
      go : (b : Bool) → has xs x ≡ b → (if b then Some (name_kind w x) else kind_in scope x) ≡ Some (worlds.Stobj y)
          → ((has xs x ≡ true) × (y ≡ x) × (is_stobj_name w x ≡ true)) ⊎ (kind_in scope x ≡ Some (worlds.Stobj y))
      go true e f = let o : (y ≡ x) × (is_stobj_name w x ≡ true) = name_own x y (some_same f) in inl (e, o.0, o.1)
      go false e f = inr f

  of_less : (gone : List ℕ) (scope : Scope) (x : ℕ) (k : Out) → kind_in (without gone scope) x ≡ Some k → kind_in scope x ≡ Some k
  of_less gone scope x k h = go (has gone x) (subst (λ (m : Option Out). m ≡ Some k) (kind_without gone scope x) h)
    where
      go : (b : Bool) → (if b then None else kind_in scope x) ≡ Some k → kind_in scope x ≡ Some k
      go true f = none_some f
      go false f = f

  own_bound : (scope : Scope) (xs : List ℕ) → HasOwnNames scope → HasOwnNames (binding w scope xs)
  own_bound scope xs own = record { each = λ x y h. elim (of_bound scope xs x y h) [ inl p ↦ p.1 | inr q ↦ own.each x y q ] }

  own_less : (gone : List ℕ) (scope : Scope) → HasOwnNames scope → HasOwnNames (without gone scope)
  own_less gone scope own = record { each = λ x y h. own.each x y (of_less gone scope x (worlds.Stobj y) h) }

  -- each stobj among these names is in scope
  abbrev AreThere : Scope → List ℕ → Type 0
  AreThere scope xs = (x : ℕ) → has (stobjs (name_kinds w xs)) x ≡ true → IsStobj scope x

  there_of : (scope : Scope) (xs : List ℕ) → AreThere scope xs → (x : ℕ) → has xs x ≡ true → is_stobj_name w x ≡ true → IsStobj scope x
  there_of scope xs t x h o = t x (has_object w xs x ∙ rw (h, o) refl)

  -- the scope inside a `LET`
  bound_back : (scope : Scope) (xs : List ℕ) → AreThere scope xs → (x : ℕ) → IsStobj (binding w scope xs) x → IsStobj scope x
  bound_back scope xs t x h = elim (of_bound scope xs x x h) [ inl p ↦ there_of scope xs t x p.0 p.2 | inr q ↦ q ]

  -- the consumer of a `STOBJ-LET`
  pub consumer_back : (scope : Scope) (xs vars : List ℕ) (x : ℕ) → IsStobj (consumer_scope w scope xs vars) x → IsStobj scope x
  consumer_back scope xs vars x h =
      elim (of_bound (without xs scope) (ordinary_names w vars) x x h) [
        | inl p ↦ never (has vars x) (sym (has_ordinary w vars x) ∙ p.0) p.2
        | inr q ↦ of_less xs scope x (worlds.Stobj x) q
      ]
    where
      never : (b : Bool) → (b && not (is_stobj_name w x)) ≡ true → is_stobj_name w x ≡ true → IsStobj scope x
      never b e o = false_true (sym ((ap (λ (d : Bool). b && not d) o) ∙ nothing b) ∙ e)
        where
          nothing : (b : Bool) → (b && false) ≡ false
          nothing true = refl
          nothing false = refl

  -- what comes after a local stobj
  others_there : (scope : Scope) (stobj : ℕ) (xs : List ℕ) → AreThere (local_scope w scope stobj) xs → AreThere (without (stobj ∷ []) scope) (other_names stobj xs)
  others_there scope stobj xs t x h =
      let among : (has (other_names stobj xs) x ≡ true) × (is_stobj_name w x ≡ true)
      = both_true (has (other_names stobj xs) x) (is_stobj_name w x) (sym (has_object w (other_names stobj xs) x) ∙ h) in
      let apart : (has xs x ≡ true) × (not (nat_eq x stobj) ≡ true) = both_true (has xs x) (not (nat_eq x stobj)) (sym (has_other stobj xs x) ∙ among.0) in
      go (nat_eq x stobj) refl apart.1 (local_object w scope stobj x (there_of (local_scope w scope stobj) xs t x apart.0 among.1))
    where
      go : (b : Bool) → nat_eq x stobj ≡ b → not b ≡ true → (x ≡ stobj) ⊎ ((x ≢ stobj) × IsStobj scope x) → IsStobj (without (stobj ∷ []) scope) x
      go true e n i = false_true n
      go false e n (inl i) = true_false (sym (subst (λ (z : ℕ). nat_eq x z ≡ true) i (same_number x)) ∙ e)
      go false e n (inr i) = kind_without (stobj ∷ []) scope x ∙ rw e i.1

  body_back : (scope : Scope) (stobj : ℕ) (xs : List ℕ) → AreThere (local_scope w scope stobj) xs → (x : ℕ) → IsStobj (body_scope w scope stobj xs) x → IsStobj scope x
  body_back scope stobj xs t x h =
      of_less (stobj ∷ []) scope x (worlds.Stobj x) (bound_back (without (stobj ∷ []) scope) (other_names stobj xs) (others_there scope stobj xs t) x h)

-- ---- what forms give

module _ (w : World) (given : GiveOnlyGiven w) where
  call_there : (scope : Scope) → HasOwnNames scope → (formal : Option ℕ) (expected : List Out) (f : ℕ) (fs : Cores) → HasArity w f (count fs) → Accepted w Executable scope (cores.Call f fs) formal expected
      → (x : ℕ) → has (stobjs expected) x ≡ true → IsStobj scope x
  unfolding outputs
  call_there scope own formal expected f fs arity a x h =
      go (definition w f) refl arity.1 (a.0 S12)
    where
      s : Signature
      s = arity.0

      ins_are : ins_of w f ≡ s.ins
      ins_are = ap (λ (m : Option Signature). option_map_or (λ (s : Signature). s.ins) m []) arity.1

      outs_are : call_outs w s fs ≡ expected
      outs_are =
          sym (ap (λ (m : Option Signature). unwrap_or (option_map (λ (s : Signature). call_outs w s fs) m) one_ordinary) arity.1)
          ∙ kinds_same (outs w scope (cores.Call f fs)) expected (not_false (same_kinds (outs w scope (cores.Call f fs)) expected) (a.0 S8))

      once : repeats (filter_map (λ v. v) (stobj_actuals s.ins fs)) ≡ false
      once = subst (λ (ins : List Out). repeats (filter_map (λ v. v) (stobj_actuals ins fs)) ≡ false) ins_are (a.0 S2)

      go : (d : Option Definition) → definition w f ≡ d → option_and_then signature_in (definition w f) ≡ Some s → option_map_or (is_internal w) (definition w f) false ≡ false → IsStobj scope x
      go None there signed kept = none_some (ap (option_and_then signature_in) (sym there) ∙ signed)
      go (Some d) there signed kept =
          call_gives w scope own s fs
          (given.functions f d s there (ap (option_and_then signature_in) (sym there) ∙ signed) (ap (λ (m : Option Definition). option_map_or (is_internal w) m false) (sym there) ∙ kept))
          arity.2 (subst (λ (ins : List Out). ActualsAccepted w Executable scope ins fs) ins_are (of_call w Executable scope formal expected f fs a)) once x
          (subst (λ (os : List Out). has (stobjs os) x ≡ true) (sym outs_are) h)

  as_many : (parts : Cores) (expected : List Out) (b : Bool) → (not (nat_eq (count parts) (length expected)) || b) ≡ false → length expected ≡ count parts
  as_many parts expected b h = sym (eqb-true (count parts) (length expected) (not_false (nat_eq (count parts) (length expected)) (neither (not (nat_eq (count parts) (length expected))) b h).0))

  either : (scope : Scope) (k : Out) (ks : List Out) → ((x : ℕ) → has (stobjs (k ∷ [])) x ≡ true → IsStobj scope x) → ((x : ℕ) → has (stobjs ks) x ≡ true → IsStobj scope x)
      → (x : ℕ) → has (stobjs (k ∷ ks)) x ≡ true → IsStobj scope x
  either scope Ordinary ks first others x h = others x h
  either scope (worlds.Stobj y) ks first others x h = go (nat_eq x y) refl h
    where
      go : (b : Bool) → nat_eq x y ≡ b → (b || has (stobjs ks) x) ≡ true → IsStobj scope x
      go true e h = first x (holds_first (nat_eq x y) false e)
      go false e h = others x h

  as_bound : (xs : List ℕ) (bound : Cores) → count bound ≡ length xs → length (name_kinds w xs) ≡ count bound
  as_bound xs bound e = length-map xs (name_kind w) ∙ sym e

  mutual
    unfolding IsFormed

    gives : (scope : Scope) → HasOwnNames scope → (formal : Option ℕ) (expected : List Out) (f : Core) → IsFormed w f → Accepted w Executable scope f formal expected
        → (x : ℕ) → has (stobjs expected) x ≡ true → IsStobj scope x
    gives scope own formal expected (cores.Var y) k a x h =
        (kind_there w scope own y x (subst (λ (os : List Out). has (stobjs os) x ≡ true) (sym (var_kind w Executable scope y formal expected not_logic a.0)) h)).1
    gives scope own formal expected (cores.Const o) k a x h =
        false_true (subst (λ (os : List Out). has (stobjs os) x ≡ true) (sym (kinds_same one_ordinary expected (not_false (same_kinds one_ordinary expected) (a.0 S8)))) h)
    gives scope own formal expected (cores.If b c d) k a x h = gives scope own None expected c k.1 (of_if w Executable scope formal expected b c d a).1 x h
    gives scope own formal expected (cores.Let xs bound body) k a x h =
        let p = of_let w Executable scope formal expected xs bound body a in
        bound_back w scope xs (parts_give scope own (name_kinds w xs) bound (as_bound xs bound k.0) k.1 p.0) x (gives (binding w scope xs) (own_bound w scope xs own) None expected body k.2 p.1 x h)
    gives scope own formal expected (cores.Mv parts) k a x h =
        parts_give scope own expected parts (as_many parts expected (any_wrong_part expected parts || repeats (stobjs expected)) (a.0 S9)) k (of_mv w Executable scope formal expected parts a) x h
    gives scope own formal expected (cores.MvLet xs bound body) k a x h =
        let p = of_mv_let w Executable scope formal expected xs bound body a in
        bound_back w scope xs (gives scope own None (name_kinds w xs) bound k.0 p.0) x (gives (binding w scope xs) (own_bound w scope xs own) None expected body k.1 p.1 x h)
    gives scope own formal expected (cores.StobjLet xs bound vars producer consumer) k a x h =
        let p = of_stobj_let w Executable scope formal expected xs bound vars producer consumer a in
        consumer_back w scope xs vars x
        (gives (consumer_scope w scope xs vars) (own_bound w (without xs scope) (ordinary_names w vars) (own_less w xs scope own)) None expected consumer k.1 p.1 x h)
    gives scope own formal expected (cores.WithLocal stobj xs producer body) k a x h =
        let p = of_with_local w Executable scope formal expected stobj xs producer body a in
        body_back w scope stobj xs (gives (local_scope w scope stobj) (own_bound w scope (stobj ∷ []) own) None (name_kinds w xs) producer k.0 p.0) x
        (gives (body_scope w scope stobj xs) (own_bound w (without (stobj ∷ []) scope) (other_names stobj xs) (own_less w (stobj ∷ []) scope own)) None expected body k.1 p.1 x h)
    gives scope own formal expected (cores.MustBeEqual logic exec) k a x h = gives scope own None expected logic k.0 (of_must_be_equal w Executable scope formal expected logic exec a).0 x h
    gives scope own formal expected (cores.Call f fs) k a x h = call_there scope own formal expected f fs k.0 a x h

    parts_give : (scope : Scope) → HasOwnNames scope → (kinds : List Out) (fs : Cores) → length kinds ≡ count fs → AreFormed w fs → PartsAccepted w Executable scope kinds fs
        → (x : ℕ) → has (stobjs kinds) x ≡ true → IsStobj scope x
    parts_give scope own [] fs n k a x h = false_true h
    parts_give scope own (kind ∷ kinds) none n k a x h = absurd (omega (arith, n))
    parts_give scope own (kind ∷ kinds) (more f fs) n k a x h =
        either scope kind kinds (gives scope own None (kind ∷ []) f k.0 a.0) (parts_give scope own kinds fs (omega (arith, n)) k.1 a.1) x h

pub accepted_give_only_given : AcceptedGiveOnlyGiven
accepted_give_only_given = record { gives = λ w g scope own f expected k n. gives w g scope own None expected f k (accepted_first w Executable scope f expected n) }
