-- Functions that are admitted together may be run, and those that stood may still.
use Rattle.std.specs.Prelude.{◌≡◌, ℕ, zero, suc, ◌<◌, List, [], ◌∷◌, map, length, Bool, true, false, Option, Some, None, slice_get, option_map, is_some, if◌then◌else◌, refl}
use Rattle.std.proofs.Common.{sym, ap, ◌∙◌, subst, arith}
use Rattle.acl_heap.specs.Objects.{Objects}
use Rattle.model_terms.specs.Faults.{Fault, clique_fault}
use Rattle.model_terms.specs.Worlds.{World, Definition, definition}
use Rattle.model_accepted.specs.Threaded.{IsThreaded}
use Rattle.model_slots.specs.Resolved.{number_in}
use Rattle.model_slots.proofs.WorldLemmas.{keeps_numbers}
use Rattle.model_window.specs.Stands.{Origins}
use Rattle.model_fitting.specs.Steps.{AreOrigins}
use Rattle.model_macro_bodies.specs.Bodies.{AreRun}
use Rattle.model_expansion.specs.Expansion.{Progress, at_start}
use Rattle.model_expansion.specs.Faults.{Thread}
use Rattle.model_stobjs.specs.Answers.{Grants, unless}
use Rattle.model_events.specs.Functions.{Candidate, signatures, defined, members}
use Rattle.model_made.specs.Lawful.{IsLawfulWorld}
use Rattle.model_origins.specs.Going.{GoOn, HaveElse}
use Rattle.model_origins.specs.Before.{AreBefore}
use Rattle.model_origins.specs.Admitted.{AreAdmitted, checking_world, world_with}
use Rattle.model_origins.proofs.FunctionLemmas.{functions_keep_origins}
use Rattle.model_origins.proofs.BeforeLemmas.{worlds_before_stay}
use Rattle.acl_worlds.specs.Contents.{Content, seen_world}
use Rattle.acl_code.specs.declared.term.Term.{Term}
use Rattle.acl_code.specs.Tables.{forest, Grown}
use Rattle.acl_machine.specs.Views.{code_with}
use Rattle.acl_cliques.specs.Entered.{Entered}
use Rattle.acl_cliques.proofs.WorldLemmas.{seen_with}
use Rattle.acl_tables.specs.Within.{AllWithin, origins_with}
use Rattle.acl_tables.proofs.ListLemmas.{number_within}
use Rattle.acl_tables.proofs.TreeLemmas.{functions_bring_trees}
use Rattle.acl_origins.specs.Were.{WereRun}
use Rattle.acl_origins.specs.Laws.{FunctionsKeepRuns}

-- ---- names that stand have numbers

none_some : {A B : Type 0} {a : A} → None ≡ Some a → B
none_some e = cc

there : {A : Type 0} (xs : List A) (n : ℕ) → n < length xs → (x : A) × (slice_get xs n ≡ Some x)
there [] n l = absurd (omega (arith, l))
there (x ∷ xs) zero l = (x, refl)
there (x ∷ xs) (suc n) l = there xs n (omega (arith, l))

has_number : (w : World) (x : ℕ) (d : Definition) → definition w x ≡ Some d → is_some (number_in w x) ≡ true
has_number w x d e = go (number_in w x) refl
  where
    go : (o : Option ℕ) → number_in w x ≡ o → is_some o ≡ true
    go (Some n) f = refl
    go None f = none_some (sym (keeps_numbers.nowhere w x f) ∙ e)

no_number : (w : World) (x : ℕ) → definition w x ≡ None → is_some (number_in w x) ≡ false
no_number w x e = go (number_in w x) refl
  where
    go : (o : Option ℕ) → number_in w x ≡ o → is_some o ≡ false
    go None f = refl
    go (Some n) f = let at = there w n (number_within w x n f) in none_some (sym e ∙ (keeps_numbers.finds w x n f ∙ at.1))

go_on : (w : World) (origins : Origins) (c : World) → GoOn w origins (origins_with w origins c)
go_on w origins c = record {
  guard = λ x d e. ap (λ (b : Bool). if b then origins.guard x else c) (has_number w x d e);
  body = λ x d e. ap (λ (b : Bool). if b then origins.body x else c) (has_number w x d e);
}

have_else : (w : World) (origins : Origins) (c : World) → HaveElse w c (origins_with w origins c)
have_else w origins c = record {
  guard = λ x e. ap (λ (b : Bool). if b then origins.guard x else c) (no_number w x e);
  body = λ x e. ap (λ (b : Bool). if b then origins.body x else c) (no_number w x e);
}

-- ---- the rules

no_fault : (fault : Option Fault) (ds : World) (p : Progress) → unless (option_map Thread fault) (Grants ds) p ≡ Grants ds p → fault ≡ None
no_fault None ds p e = refl
no_fault (Some f) ds p e = absurd (cc)

no_progress : Progress
no_progress = at_start []

accepted : (h : Objects) (old new : Content) (ts : List Term) (cs : List Candidate) → Entered h old new ts cs → clique_fault (checking_world (seen_world h old) cs) 0 (members cs) ≡ None
accepted h old new ts cs e = no_fault (clique_fault (checking_world (seen_world h old) cs) 0 (members cs)) (map (defined (signatures (seen_world h old) cs)) cs) no_progress (e.grants no_progress)

-- ---- the world that they enter

module _ (h : Objects) (old new : Content) (after : List Term) (cs : List Candidate) (l : IsLawfulWorld (seen_world h old)) (a : AreAdmitted (seen_world h old) cs) (entered : Entered h old new after cs) where
  abbrev w : World
  w = seen_world h old

  seen_new : seen_world h new ≡ world_with w cs
  seen_new = seen_with h old new entered.definitions (map (defined (signatures w cs)) cs) entered.is entered.seen

  of_new : (P : World → Type 0) → P (world_with w cs) → P (seen_world h new)
  of_new P p = subst P (sym seen_new) p

  lawful_new : IsLawfulWorld (seen_world h new)
  lawful_new = of_new IsLawfulWorld (functions_keep_origins.lawful w cs l a)

  abbrev next : Origins → Origins
  next origins = origins_with w origins (checking_world w cs)

  module _ (before : List Term) (within : AllWithin before old.definitions) (grown : Grown before after) where
    abbrev runs_new : AreRun w (code_with (forest h before) old.definitions) → AreRun (seen_world h new) (code_with (forest h after) new.definitions)
    runs_new r = record {
      threaded = of_new IsThreaded (functions_keep_origins.threaded w cs l a r.threaded);
      origins = next r.origins;
      are = of_new (λ (u : World). AreOrigins u (next r.origins))
          (functions_keep_origins.origins w cs l a r.origins (next r.origins) (go_on w r.origins (checking_world w cs)) (have_else w r.origins (checking_world w cs)) r.are);
      holds = functions_bring_trees.hold h old new before after cs r.origins within grown entered r.holds;
    }

    were_new : WereRun w (code_with (forest h before) old.definitions) → WereRun (seen_world h new) (code_with (forest h after) new.definitions)
    were_new r = record {
      run = runs_new r.run;
      before = of_new (λ (u : World). AreBefore u (next r.run.origins))
          (worlds_before_stay.functions w cs l a r.run.origins (next r.run.origins) (go_on w r.run.origins (checking_world w cs)) (have_else w r.run.origins (checking_world w cs)) r.before);
    }

pub functions_keep_runs : FunctionsKeepRuns
functions_keep_runs = record {
  accepted = accepted;
  lawful = λ h old new ts cs l a e. lawful_new h old new ts cs l a e;
  runs = λ h old new before after cs l a within grown e r. runs_new h old new after cs l a e before within grown r;
  were = λ h old new before after cs l a within grown e r. were_new h old new after cs l a e before within grown r;
}
