-- Values of the actuals of an accepted call are as the inputs of its function say.
use Rattle.std.proofs.Common.{◌≡◌, ℕ, List, [], ◌∷◌, length, Bool, true, false, Option, Some, None, refl, sym, ap, ◌∙◌, subst, arith}
use Rattle.std.specs.Prelude.{◌&&◌, unwrap_or, option_map, option_and_then}
use Rattle.std.specs.Option.{option_map_or}
use Rattle.std.specs.List.{filter_map}
use Rattle.model_terms.specs.declared.rule.Rule.TheVariants.{S1, S2, S8, S12, S16}
use Rattle.model_terms.specs.declared.rule.Mode.TheVariants.{Executable}
use Rattle.model_terms.specs.Cores as cores
use Rattle.model_terms.specs.Cores.{Core, Cores, none, more, variable, count}
use Rattle.model_terms.specs.Worlds.{World, Definition, definition, Out, Ordinary, Signature, Scope}
use Rattle.model_terms.specs.Worlds as worlds
use Rattle.model_terms.specs.Classes as classes
use Rattle.model_terms.specs.Classes.{repeats, congruent, all_congruent, instance_of}
use Rattle.model_terms.specs.Outputs.{signature_in, stobj_actuals, all_there, call_outs, outputs, outs}
use Rattle.model_terms.specs.Accessors.{is_internal, is_executable, runs}
use Rattle.model_terms.specs.Sites.{one_ordinary, ins_of, actual_kind, formal_stobj}
use Rattle.model_terms.specs.Nested.{same_kinds, stands_for}
use Rattle.model_eval.specs.Outcomes.{Shown, Plain, StobjNamed}
use Rattle.model_accepted.specs.Threaded.{HasArity, AreFormed, Suits}
use Rattle.model_accepted.specs.StobjScopes.{IsStobj, AreOutputs, IsOutput}
use Rattle.model_accepted.specs.Accepted.{Accepted, ActualsAccepted}
use Rattle.model_accepted.proofs.AcceptLemmas.{not_false, kinds_same, of_call}
use Rattle.model_accepted.proofs.ScopeLemmas.{none_some}
use Rattle.model_in_place.specs.Calls.{names_in, AreArguments}
use Rattle.model_fitting.specs.Giving.{HasOwnNames}
use Rattle.model_fitting.specs.Steps.{AreReady, IsCall, outs_at}
use Rattle.model_fitting.proofs.CallLemmas.{IsActual, actual_is, all_of, one_there}

-- what actuals give
abbrev pub actual_kinds : List Out → Cores → List Out
actual_kinds [] fs = []
actual_kinds (k ∷ ks) none = []
actual_kinds (k ∷ ks) (more f fs) = actual_kind k (variable f) ∷ actual_kinds ks fs

pub ready_actuals : (c : World) (scope : Scope) (ins : List Out) (fs : Cores) → length ins ≡ count fs → ActualsAccepted c Executable scope ins fs → AreFormed c fs → AreReady c scope (actual_kinds ins fs) fs
unfolding AreFormed
ready_actuals c scope [] none n a k = tt
ready_actuals c scope [] (more f fs) n a k = absurd (omega (arith, n))
ready_actuals c scope (i ∷ ins) none n a k = absurd (omega (arith, n))
ready_actuals c scope (i ∷ ins) (more f fs) n a k = (record { formal = formal_stobj i; accepted = a.0; formed = k.0 }, ready_actuals c scope ins fs (omega (arith, n)) a.1 k.1)

both_hold : (a b : Bool) → a ≡ true → b ≡ true → (a && b) ≡ true
both_hold a b p q = rw (p, q) refl

module _ (w c : World) (suits : Suits c w) (scope : Scope) (own : HasOwnNames scope) where
  record AreActuals (ins : List Out) (fs : Cores) (vs : List (Shown ℕ)) : Type 0 where
    arguments : AreArguments w scope ins vs
    there : all_there (stobj_actuals ins fs) ≡ Some (names_in vs)
    alike : all_congruent c (classes.stobjs ins) (names_in vs) ≡ true

  arguments_of : (ins : List Out) (fs : Cores) (vs : List (Shown ℕ)) → length ins ≡ count fs → ActualsAccepted c Executable scope ins fs → AreOutputs scope (actual_kinds ins fs) vs → AreActuals ins fs vs
  arguments_of [] none [] n a o = record { arguments = tt; there = refl; alike = refl }
  arguments_of [] none (v ∷ vs) n a o = absurd o
  arguments_of [] (more f fs) vs n a o = absurd (omega (arith, n))
  arguments_of (i ∷ ins) none vs n a o = absurd (omega (arith, n))
  arguments_of (i ∷ ins) (more f fs) [] n a o = absurd o
  arguments_of (Ordinary ∷ ins) (more f fs) (Plain p ∷ vs) n a o =
      let r : AreActuals ins fs vs = arguments_of ins fs vs (omega (arith, n)) a.1 o.1 in record { arguments = (tt, r.arguments); there = r.there; alike = r.alike }
  arguments_of (Ordinary ∷ ins) (more f fs) (StobjNamed y ∷ vs) n a o = absurd o.0
  arguments_of (worlds.Stobj x ∷ ins) (more f fs) (v ∷ vs) n a o =
      let r : AreActuals ins fs vs = arguments_of ins fs vs (omega (arith, n)) a.1 o.1 in
      let i : IsActual c scope own x (variable f) = actual_is c scope own x (variable f) (not_false (option_map_or (λ y. stands_for c scope y x) (variable f) false) (a.0.0 S1)) in
      one v i (subst (λ (u : Option ℕ). IsOutput scope (actual_kind (worlds.Stobj x) u) v) i.1 o.0) r
    where
      one : (v : Shown ℕ) (i : IsActual c scope own x (variable f)) → IsOutput scope (worlds.Stobj i.0) v → AreActuals ins fs vs → AreActuals (worlds.Stobj x ∷ ins) (more f fs) (v ∷ vs)
      one (Plain p) i h r = absurd h
      one (StobjNamed y) i h r =
          let same : congruent c x y ≡ true = subst (λ (z : ℕ). congruent c x z ≡ true) (sym h.0) i.3 in
          record {
            arguments = ((subst (λ (z : ℕ). IsStobj scope z) (sym h.0) h.1, suits.layouts x y same), r.arguments);
            there = one_there (variable f) y (stobj_actuals ins fs) (names_in vs) (i.1 ∙ ap (λ (z : ℕ). Some z) (sym h.0)) r.there;
            alike = both_hold (congruent c x y) (all_congruent c (classes.stobjs ins) (names_in vs)) same r.alike;
          }

  pub call_ready : (formal : Option ℕ) (expected : List Out) (f : ℕ) (fs : Cores) → HasArity c f (count fs) → Accepted c Executable scope (cores.Call f fs) formal expected
      → (ins : List Out) × (length ins ≡ count fs) × ActualsAccepted c Executable scope ins fs × ((vs : List (Shown ℕ)) → AreOutputs scope (actual_kinds ins fs) vs → IsCall w scope expected f vs)
  unfolding outputs
  call_ready formal expected f fs arity a =
      (s.ins, arity.2, actuals, λ vs o. go vs (arguments_of s.ins fs vs arity.2 actuals o) (definition c f) refl arity.1 (a.0 S12) (not_false (runs c f) (a.0 S16)))
    where
      s : Signature
      s = arity.0

      ins_are : ins_of c f ≡ s.ins
      ins_are = ap (λ (m : Option Signature). option_map_or (λ (s : Signature). s.ins) m []) arity.1

      actuals : ActualsAccepted c Executable scope s.ins fs
      actuals = subst (λ (ins : List Out). ActualsAccepted c Executable scope ins fs) ins_are (of_call c Executable scope formal expected f fs a)

      outs_are : call_outs c s fs ≡ expected
      outs_are =
          sym (ap (λ (m : Option Signature). unwrap_or (option_map (λ (s : Signature). call_outs c s fs) m) one_ordinary) arity.1)
          ∙ kinds_same (outs c scope (cores.Call f fs)) expected (not_false (same_kinds (outs c scope (cores.Call f fs)) expected) (a.0 S8))

      once : repeats (filter_map (λ v. v) (stobj_actuals s.ins fs)) ≡ false
      once = subst (λ (ins : List Out). repeats (filter_map (λ v. v) (stobj_actuals ins fs)) ≡ false) ins_are (a.0 S2)

      instance_is : (vs : List (Shown ℕ)) → AreActuals s.ins fs vs → repeats (names_in vs) ≡ false → call_outs c s fs ≡ outs_at s.ins vs s.outs
      instance_is vs r e =
          ap (λ (xs : Option (List ℕ)). option_map_or (λ (i : Signature). i.outs) (option_and_then (instance_of c s) xs) s.outs) r.there
          ∙ rw (r.alike, e) refl

      go : (vs : List (Shown ℕ)) → AreActuals s.ins fs vs → (d : Option Definition) → definition c f ≡ d → option_and_then signature_in (definition c f) ≡ Some s
          → option_map_or (is_internal c) (definition c f) false ≡ false → option_map_or is_executable (definition c f) true ≡ true → IsCall w scope expected f vs
      go vs r None there signed kept runs = none_some (ap (option_and_then signature_in) (sym there) ∙ signed)
      go vs r (Some d) there signed kept runs =
          let different : repeats (names_in vs) ≡ false = subst (λ (xs : List ℕ). repeats xs ≡ false) (all_of (stobj_actuals s.ins fs) (names_in vs) r.there) once in
          record {
            signature = s;
            runs =
                suits.called f d s there (ap (option_and_then signature_in) (sym there) ∙ signed)
                (ap (λ (m : Option Definition). option_map_or (is_internal c) m false) (sym there) ∙ kept) (ap (λ (m : Option Definition). option_map_or is_executable m true) (sym there) ∙ runs);
            arguments = r.arguments;
            once = different;
            outs = sym (instance_is vs r different) ∙ outs_are;
          }
