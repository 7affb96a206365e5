-- Commands keep a session lawful.
use Rattle.std.proofs.Common.{◌≡◌, ◌≢◌, ℕ, List, [], ◌∷◌, ◌++◌, Bool, true, false, Option, Some, None, refl, sym, ap, ◌∙◌, subst, inl, inr}
use Rattle.std.specs.Prelude.{◌⊎◌, nat_eq, ◌||◌, option_map, option_to_list, if◌then◌else◌}
use Rattle.std.specs.List.{cons_option}
use Rattle.std.proofs.lemmas.Bool.{eqb-true}
use Rattle.std.proofs.lemmas.List.{append-nil}
use Rattle.model_objects.specs.Object.{Object}
use Rattle.model_symbols.specs.Symbols.{QualifiedName}
use Rattle.model_prims.specs.Kinds.{by_number}
use Rattle.model_lists.specs.Lists.{StobjList}
use Rattle.model_lists.specs.Layouts.{Layout, initial}
use Rattle.model_lists.specs.LiveLists.{HasFields}
use Rattle.model_lists_laws.proofs.StandingLemmas.{new_stobjs_stand}
use Rattle.model_terms.specs.declared.rule.Mode.TheVariants.{Executable, Logic}
use Rattle.model_terms.specs.Cores.{Core}
use Rattle.model_terms.specs.Worlds.{World, Out, Definition, definition, definition_name, Primitive, Defined, Macro, Constant, Concrete, Generated, Abstract, OfAbstract, Named, Signed}
use Rattle.model_terms.specs.Worlds as worlds
use Rattle.model_terms.specs.Outputs.{outs}
use Rattle.model_terms.specs.Faults.{Fault, expression_fault}
use Rattle.model_eval.specs.Outcomes.{StobjNamed, Stobjs, State, Outcome, Gives, Stops, Unknown}
use Rattle.model_eval.specs.Variables.{variable_in, list_of, with_list}
use Rattle.model_eval.specs.Checked.{checked, begun, live}
use Rattle.model_eval_laws.specs.Scope.{names, is_among}
use Rattle.model_eval_laws.specs.Agreement.{StandsIn}
use Rattle.model_accepted.specs.Threaded.{layout_of, Suits, IsThreaded}
use Rattle.model_lawful.specs.Lawful.{IsSigned}
use Rattle.model_accepted.specs.StobjScopes.{IsStobj}
use Rattle.model_accepted.specs.StobjScopes.{IsOfKind, AreVariables}
use Rattle.model_accepted.specs.Threaded.{Fits}
use Rattle.model_in_place.specs.Writes.{Write, stobjs_after, AreWrites}
use Rattle.model_in_place.specs.Keeping.{IsWritten, IsKept}
use Rattle.model_in_place.specs.Commands.{live_scope, AreFitting}
use Rattle.model_accepted.proofs.AcceptLemmas.{false_true}
use Rattle.model_in_place.proofs.ObjectLemmas.{equal_or_not, list_written, list_other}
use Rattle.model_in_place.proofs.BeginLemmas.{live_object, changes_only_outputs}
use Rattle.model_lawful.proofs.LawfulLemmas.{lawful_worlds}
use Rattle.model_expansion.specs.Words.{in_package_word, defpkg_word, defconst_word, defmacro_word, defstobj_word, defabsstobj_word}
use Rattle.model_expansion.specs.Expansion.{Progress, Expanded, Makes, Fails, expanded, at_start}
use Rattle.model_expansion_forms.specs.Nodes.{IsWellCalled}
use Rattle.model_expansion_forms.proofs.LawLemmas.{forms_are_well_called}
use Rattle.model_stobjs.specs.Answers.{EventResult, Grants, Refuses, Halts}
use Rattle.model_stobjs.specs.Descriptors.{descriptor_read}
use Rattle.model_stobjs.specs.Entries.{stobj_entries}
use Rattle.model_stobjs.specs.Abstracts.{abstract_read, abstract_entries}
use Rattle.model_stobjs.specs.Obligations.{obligations, too_large}
use Rattle.model_events.specs.Functions.{functions_read}
use Rattle.model_events.specs.Macros.{macro_read}
use Rattle.model_events.specs.Constants.{constant_read, package_read, current_read}
use Rattle.model_events.specs.Events.{Environment, Limits, Obliged, Admitted, setting, defining, definitions_admitted, stobj_admitted, package_admitted, current_admitted, abstract_admitted, admitted}
use Rattle.model_books.specs.Opening.{Session, opening_session}
use Rattle.model_books.specs.Commands.{Answer, Answered, with_created, event_outcome, evaluated_outcome, core_outcome, expanded_outcome, live_list, at_once, ways, command}
use Rattle.model_books_laws.proofs.WayLemmas.{ShowHolds, AllWays, way_holds}
use Rattle.model_made.specs.Lawful.{IsAdmitted, stobj_in, stobj_names, IsLawfulWorld, IsLawfulSession}
use Rattle.model_made.specs.Made.{Step, knowing, after_step, commanded, IsMade}
use Rattle.model_made.specs.Laws.{MadeSessionsAreLawful, CommandsStayLawful, LawfulSessionsAreThreaded}
use Rattle.model_made.proofs.WorldLemmas.{EachDefinition, each_found}
use Rattle.model_made.proofs.FormLemmas.{formed_of}
use Rattle.model_made.proofs.GrowthLemmas.{layout_still, grows}
use Rattle.model_made.proofs.OpeningLemmas.{opening_is_lawful, IsPlain, plain_ready, plain_admitted, plain_names}
use Rattle.model_made.proofs.EventLemmas.{IfGrants, grants_then, grants_unless, plain_brings, macro_plain, constant_plain}
use Rattle.model_made.proofs.FunctionLemmas.{LawfulWith, functions_stay}
use Rattle.model_made.proofs.DescriptorLemmas.{IsNew, descriptor_new}
use Rattle.model_made.proofs.StobjLemmas.{object_lawful, entries_names}
use Rattle.model_made.proofs.ExportLemmas.{abstract_lawful, abstract_names, IsAccepted, abstract_accepted}

-- ---- lawful worlds are threaded

not_signed : (d : Definition) → IsAdmitted d → IsSigned d → ⊥
not_signed (Primitive name row) a s = absurd s
not_signed (Defined f) a s = absurd s
not_signed (Macro name formals body) a s = absurd s
not_signed (Constant name value) a s = absurd s
not_signed (Concrete d class) a s = absurd s
not_signed (Generated g) a s = absurd s
not_signed (Abstract d) a s = absurd s
not_signed (OfAbstract f) a s = absurd s
not_signed (Named name formals) a s = absurd s
not_signed (Signed name formals signature executable) a s = absurd a

world_threaded : (w : World) → IsLawfulWorld w → IsThreaded w
world_threaded w l = lawful_worlds.threaded w l.lawful

world_suits : (w : World) → IsLawfulWorld w → Suits w w
world_suits w l = lawful_worlds.suits w l.lawful (λ x d e. not_signed d (l.admitted x d e))

pub sessions_are_threaded : LawfulSessionsAreThreaded
sessions_are_threaded = record {
  threaded = λ s l. world_threaded s.environment.world l.world;
  suits = λ s l. world_suits s.environment.world l.world;
}

-- ---- names of stobjs

pub more_names : (w new : World) → stobj_names (w ++ new) ≡ stobj_names w ++ stobj_names new
more_names [] new = refl
more_names (d ∷ w) new = go (stobj_in d) (more_names w new)
  where
    go : (v : Option ℕ) → stobj_names (w ++ new) ≡ stobj_names w ++ stobj_names new → cons_option v (stobj_names (w ++ new)) ≡ cons_option v (stobj_names w) ++ stobj_names new
    go None e = e
    go (Some x) e = ap (λ (ns : List ℕ). x ∷ ns) e

object_is_named : (d : Definition) (x : ℕ) → stobj_in d ≡ Some x → x ≡ definition_name d
object_is_named (Primitive name row) x e = cc
object_is_named (Defined f) x e = cc
object_is_named (Macro name formals body) x e = cc
object_is_named (Constant name value) x e = cc
object_is_named (Concrete d class) x e = cc
object_is_named (Generated g) x e = cc
object_is_named (Abstract d) x e = cc
object_is_named (OfAbstract f) x e = cc
object_is_named (Named name formals) x e = cc
object_is_named (Signed name formals signature executable) x e = cc

pub object_stands : (w : World) (x : ℕ) → is_among x (stobj_names w) ≡ true → StandsIn w x
object_stands [] x e = false_true e
object_stands (d ∷ w) x e = by_name (nat_eq x (definition_name d)) refl (object_stands w x)
  where
    behind : (v : Option ℕ) → stobj_in d ≡ v → nat_eq x (definition_name d) ≡ false → is_among x (cons_option v (stobj_names w)) ≡ true → is_among x (stobj_names w) ≡ true
    behind None f g h = h
    behind (Some y) f g h = ap (λ (b : Bool). b || is_among x (stobj_names w)) (sym (ap (nat_eq x) (object_is_named d y f) ∙ g)) ∙ h

    by_name : (b : Bool) → nat_eq x (definition_name d) ≡ b → (is_among x (stobj_names w) ≡ true → StandsIn w x) → StandsIn (d ∷ w) x
    by_name true f others = (d, ap (λ (b : Bool). if b then Some d else definition w x) f)
    by_name false f others =
        let later : StandsIn w x = others (behind (stobj_in d) refl f e) in
        (later.0, ap (λ (b : Bool). if b then Some d else definition w x) f ∙ later.1)

-- ---- events

-- an event leaves a lawful world, with the stobj that it makes
pub record IsGranted (s : Environment) (a : Admitted) : Type 0 where
  pub new : World
  pub world : a.environment.world ≡ s.world ++ new
  pub lawful : IsLawfulWorld (s.world ++ new)
  pub names : stobj_names new ≡ option_to_list a.created

any_grants : {A : Type 0} (r : EventResult A) → IfGrants (λ (a : A). Unit {0}) r
any_grants (Grants a p) = tt
any_grants (Refuses r p) = tt
any_grants (Halts stop inside p) = tt

abbrev Nothing : {A : Type 0} → A → Type 0
Nothing a = Unit {0}

module _ (s : Environment) (l : IsLawfulWorld s.world) (k : Limits) where
  abbrev Granted : EventResult Admitted → Type 0
  Granted r = IfGrants (IsGranted s) r

  granted_if : (b : Bool) (q r : EventResult Admitted) → (b ≡ true → Granted q) → (b ≡ false → Granted r) → Granted (if b then q else r)
  granted_if true q r h g = h refl
  granted_if false q r h g = g refl

  plain_granted : (head : ℕ) (new : World) (p : Progress) → EachDefinition IsPlain new → Granted (definitions_admitted s head new p)
  plain_granted head new p h = record {
    new = new;
    world = refl;
    lawful = grows s.world new l (plain_brings s.world new h) (λ x d n e. plain_ready (s.world ++ new) d (each_found IsPlain new h x d e)) (λ x d n e. plain_admitted d (each_found IsPlain new h x d e));
    names = plain_names new h;
  }

  functions_granted : (head : ℕ) (new : World) (p : Progress) → LawfulWith s.world new → Granted (definitions_admitted s head new p)
  functions_granted head new p h = record { new = new; world = refl; lawful = h.lawful; names = h.no_objects }

  object_granted : (d : worlds.Descriptor) (p : Progress) → IsNew s.world d → Granted (stobj_admitted s d p)
  object_granted d p h = record { new = stobj_entries s.world d; world = refl; lawful = object_lawful s.world l d h; names = entries_names s.world d }

  same_granted : (a : Admitted) (p : Progress) → a.environment.world ≡ s.world → a.created ≡ None → Granted (Grants a p)
  same_granted a p e c = record {
    new = [];
    world = e ∙ sym (append-nil s.world);
    lawful = subst IsLawfulWorld (sym (append-nil s.world)) l;
    names = ap (λ (v : Option ℕ). option_to_list v) (sym c);
  }

  abstract_granted : (d : worlds.AbstractDescriptor) (p : Progress) → IsAccepted s.world d → Granted (abstract_admitted s d p)
  abstract_granted d p h =
      let os = obligations s.world p.symbols d in
      grants_unless (IsGranted s) (too_large os) (Grants (record { environment = defining s (abstract_entries s.world d); created = Some d.name; said = Obliged d.name os })) p (λ light.
      record { new = abstract_entries s.world d; world = refl; lawful = abstract_lawful s.world l d h; names = abstract_names s.world d })

  event_granted : (head : ℕ) (d : Object ℕ) (p : Progress) → Granted (admitted s k head d p)
  unfolding admitted
  event_granted head d p =
      granted_if (nat_eq head in_package_word) _ _ (λ e. grants_then Nothing (IsGranted s) (current_read s.packages d p) (current_admitted s) (any_grants _) (λ n q h. same_granted _ q refl refl))
      (λ e. granted_if (nat_eq head defpkg_word) _ _ (λ e. grants_then Nothing (IsGranted s) (package_read (setting s k) d p) (package_admitted s) (any_grants _) (λ n q h. same_granted _ q refl refl))
      (λ e. granted_if (nat_eq head defconst_word) _ _ (λ e. grants_then (EachDefinition IsPlain) (IsGranted s) (constant_read (setting s k) d p) (definitions_admitted s head) (constant_plain (setting s k) d p) (plain_granted head))
      (λ e. granted_if (nat_eq head defmacro_word) _ _ (λ e. grants_then (EachDefinition IsPlain) (IsGranted s) (macro_read (setting s k) d p) (definitions_admitted s head) (macro_plain (setting s k) d p) (plain_granted head))
      (λ e. granted_if (nat_eq head defstobj_word) _ _ (λ e. grants_then (IsNew s.world) (IsGranted s) (descriptor_read s.world s.packages d p) (stobj_admitted s) (descriptor_new s.world s.packages d p) object_granted)
      (λ e. granted_if (nat_eq head defabsstobj_word) _ _ (λ f. grants_then (IsAccepted s.world) (IsGranted s) (abstract_read s.world s.packages d p) (abstract_admitted s) (abstract_accepted s.world s.packages d p) abstract_granted)
      (λ e. grants_then (LawfulWith s.world) (IsGranted s) (functions_read (setting s k) head d p) (definitions_admitted s head) (functions_stay (setting s k) l head d p) (functions_granted head)))))))

-- ---- stobjs of a session

more_listed : (os : Stobjs ℕ) (y : ℕ) (m : StobjList ℕ) (x : ℕ) → is_among x (names os) ≡ true → list_of (os ++ (y, m) ∷ []) x ≡ list_of os x
more_listed [] y m x e = false_true e
more_listed (o ∷ os) y m x e = go (nat_eq x o.0) e (more_listed os y m x)
  where
    go : (b : Bool) → (b || is_among x (names os)) ≡ true → (is_among x (names os) ≡ true → list_of (os ++ (y, m) ∷ []) x ≡ list_of os x) → (if b then o.1 else list_of (os ++ (y, m) ∷ []) x) ≡ (if b then o.1 else list_of os x)
    go true f later = refl
    go false f later = later f

last_listed : (os : Stobjs ℕ) (y : ℕ) (m : StobjList ℕ) (x : ℕ) → is_among x (names os) ≡ false → is_among x (names (os ++ (y, m) ∷ [])) ≡ true → (x ≡ y) × (list_of (os ++ (y, m) ∷ []) x ≡ m)
last_listed [] y m x n e = go (nat_eq x y) refl e
  where
    go : (b : Bool) → nat_eq x y ≡ b → (b || false) ≡ true → (x ≡ y) × ((if b then m else list_of [] x) ≡ m)
    go true f g = (eqb-true x y f, refl)
    go false f g = false_true g
last_listed (o ∷ os) y m x n e = go (nat_eq x o.0) n e (last_listed os y m x)
  where
    go : (b : Bool) → (b || is_among x (names os)) ≡ false → (b || is_among x (names (os ++ (y, m) ∷ []))) ≡ true
        → (is_among x (names os) ≡ false → is_among x (names (os ++ (y, m) ∷ [])) ≡ true → (x ≡ y) × (list_of (os ++ (y, m) ∷ []) x ≡ m)) → (x ≡ y) × ((if b then o.1 else list_of (os ++ (y, m) ∷ []) x) ≡ m)
    go true f g later = false_true (sym f)
    go false f g later = later f g

more_named : (os : Stobjs ℕ) (o : ℕ × StobjList ℕ) → names (os ++ o ∷ []) ≡ names os ++ o.0 ∷ []
more_named [] o = refl
more_named (p ∷ os) o = ap (λ (ns : List ℕ). p.0 ∷ ns) (more_named os o)

-- ---- writes

written_names : (x : ℕ) (m : StobjList ℕ) (os : Stobjs ℕ) → names (with_list x m os) ≡ names os
written_names x m [] = refl
written_names x m (o ∷ os) = go (nat_eq x o.0) (written_names x m os)
  where
    go : (b : Bool) → names (with_list x m os) ≡ names os → names (if b then (o.0, m) ∷ os else o ∷ with_list x m os) ≡ o.0 ∷ names os
    go true e = refl
    go false e = ap (λ (ns : List ℕ). o.0 ∷ ns) e

module _ (w : World) where
  fits_written : (x : ℕ) (m : StobjList ℕ) (os : Stobjs ℕ) → Fits w x m → AreFitting w os → AreFitting w (with_list x m os)
  fits_written x m os f h = record { each = each }
    where
      each : (y : ℕ) → is_among y (names (with_list x m os)) ≡ true → Fits w y (list_of (with_list x m os) y)
      each y e = go (equal_or_not y x)
        where
          among_old : is_among y (names os) ≡ true
          among_old = ap (is_among y) (sym (written_names x m os)) ∙ e

          go : (y ≡ x) ⊎ (y ≢ x) → Fits w y (list_of (with_list x m os) y)
          go (inl same) =
              subst (λ (z : ℕ). Fits w z (list_of (with_list x m os) z)) (sym same)
              (subst (Fits w x) (sym (list_written x m os (ap (λ (z : ℕ). is_among z (names os)) (sym same) ∙ among_old))) f)
          go (inr differ) = subst (Fits w y) (sym (list_other y x m os differ)) (h.each y among_old)

  after_names : (us : List Write) (os : Stobjs ℕ) → names (stobjs_after us os) ≡ names os
  after_names [] os = refl
  after_names (u ∷ us) os = after_names us (with_list u.0 u.1 os) ∙ written_names u.0 u.1 os

  after_fits : (May : ℕ → Type 0) (us : List Write) (os : Stobjs ℕ) → AreWrites w May us → AreFitting w os → AreFitting w (stobjs_after us os)
  after_fits May [] os a h = h
  after_fits May (u ∷ us) os a h = after_fits May us (with_list u.0 u.1 os) a.2 (fits_written u.0 u.1 os a.1 h)

-- ---- live stobjs in evaluation

live_variable : (os : Stobjs ℕ) (x : ℕ) → is_among x (names os) ≡ true → variable_in by_number (live os) x ≡ StobjNamed x
live_variable [] x h = false_true h
live_variable (o ∷ os) x h = go (nat_eq x o.0) refl h (live_variable os x)
  where
    go : (b : Bool) → nat_eq x o.0 ≡ b → (b || is_among x (names os)) ≡ true → (is_among x (names os) ≡ true → variable_in by_number (live os) x ≡ StobjNamed x) → (if b then StobjNamed o.0 else variable_in by_number (live os) x) ≡ StobjNamed x
    go true e f later = ap StobjNamed (sym (eqb-true x o.0 e))
    go false e f later = later f

live_variables : (os : Stobjs ℕ) → AreVariables (live_scope os) (live os)
live_variables os = record {
  each = λ x k h.
      let is : (is_among x (names os) ≡ true) × (k ≡ worlds.Stobj x) = live_object os x k h in
      subst (λ (m : Out). IsOfKind x m (variable_in by_number (live os) x)) (sym is.1) (refl, live_variable os x is.0);
}

executable_not_logic : Executable ≢ Logic
executable_not_logic e = cc

-- ---- commands

module _ (k : Limits) (s : Session) (l : IsLawfulSession s) where
  abbrev Lawful : Answered → Type 0
  Lawful o = IsLawfulSession o.session

  with_symbols_lawful : (symbols : List QualifiedName) → IsLawfulSession (record s { symbols = symbols })
  with_symbols_lawful symbols = record { world = l.world; live = l.live; fits = l.fits }

  granted_session : (a : Admitted) (symbols : List QualifiedName) → IsGranted s.environment a → IsLawfulSession (record { environment = a.environment; symbols = symbols; stobjs = with_created k s a.environment a.created })
  granted_session a symbols g = record {
    world = subst IsLawfulWorld (sym g.world) g.lawful;
    live = live_names a.created refl;
    fits = subst (λ (w : World). AreFitting w (with_created k s a.environment a.created)) (sym g.world) (live_fits a.created);
  }
    where
      live_names : (v : Option ℕ) → a.created ≡ v → names (with_created k s a.environment v) ≡ stobj_names a.environment.world
      live_names v e = go v ∙ sym (ap stobj_names g.world ∙ (more_names s.environment.world g.new ∙ ap (λ (ns : List ℕ). stobj_names s.environment.world ++ ns) (g.names ∙ ap (λ (v : Option ℕ). option_to_list v) e)))
        where
          go : (v : Option ℕ) → names (with_created k s a.environment v) ≡ stobj_names s.environment.world ++ option_to_list v
          go None = l.live ∙ sym (append-nil (stobj_names s.environment.world))
          go (Some x) = more_named s.stobjs (x, initial (layout_of a.environment.world x)) ∙ ap (λ (ns : List ℕ). ns ++ x ∷ []) l.live

      old_fits : (x : ℕ) → is_among x (names s.stobjs) ≡ true → Fits (s.environment.world ++ g.new) x (list_of s.stobjs x)
      old_fits x e =
          let stands : StandsIn s.environment.world x = object_stands s.environment.world x (ap (is_among x) (sym l.live) ∙ e) in
          subst (λ (y : Layout ℕ). HasFields y (list_of s.stobjs x)) (sym (layout_still s.environment.world g.new l.world x stands)) (l.fits.each x e)

      live_fits : (v : Option ℕ) → AreFitting (s.environment.world ++ g.new) (with_created k s a.environment v)
      live_fits None = record { each = old_fits }
      live_fits (Some y) = record { each = λ x e. go x (is_among x (names s.stobjs)) refl e }
        where
          go : (x : ℕ) (b : Bool) → is_among x (names s.stobjs) ≡ b → is_among x (names (s.stobjs ++ (y, initial (layout_of a.environment.world y)) ∷ [])) ≡ true
              → Fits (s.environment.world ++ g.new) x (list_of (s.stobjs ++ (y, initial (layout_of a.environment.world y)) ∷ []) x)
          go x true f e = subst (Fits (s.environment.world ++ g.new) x) (sym (more_listed s.stobjs y (initial (layout_of a.environment.world y)) x f)) (old_fits x f)
          go x false f e =
              let last = last_listed s.stobjs y (initial (layout_of a.environment.world y)) x f e in
              subst (Fits (s.environment.world ++ g.new) x) (sym last.1)
              (subst (λ (w : World). Fits w x (initial (layout_of a.environment.world y))) g.world
              (subst (λ (z : ℕ). HasFields (layout_of a.environment.world z) (initial (layout_of a.environment.world y))) (sym last.0) (new_stobjs_stand.fields (layout_of a.environment.world y))))

  event_lawful : (r : EventResult Admitted) → IfGrants (IsGranted s.environment) r → Lawful (event_outcome k s r)
  event_lawful (Grants a p) g = granted_session a p.symbols g
  event_lawful (Refuses r p) g = with_symbols_lawful p.symbols
  event_lawful (Halts stop inside p) g = with_symbols_lawful p.symbols

  -- ---- expressions

  state_lawful : (scope : worlds.Scope) (symbols : List QualifiedName) (used : ℕ) (state : State ℕ) → IsWritten s.environment.world scope (begun symbols s.stobjs used) state
      → IsLawfulSession (record s { symbols = state.symbols; stobjs = state.stobjs })
  state_lawful scope symbols used state h = record {
    world = l.world;
    live = ap (λ (os : Stobjs ℕ). names os) h.lists ∙ (after_names s.environment.world h.writes s.stobjs ∙ l.live);
    fits = subst (AreFitting s.environment.world) (sym h.lists) (after_fits s.environment.world (IsStobj scope) h.writes s.stobjs h.allowed l.fits);
  }

  ended_lawful : (scope : worlds.Scope) (expected : List Out) (p : Progress) (e : Outcome ℕ) → IsKept s.environment.world scope expected (begun p.symbols s.stobjs p.calls) e → Lawful (evaluated_outcome k s p e)
  ended_lawful scope expected p (Gives values state) h = state_lawful scope p.symbols p.calls state h.1
  ended_lawful scope expected p (Stops stop inside state) h = state_lawful scope p.symbols p.calls state h
  ended_lawful scope expected p Unknown h = absurd h

  core_lawful : (f : Core) (p : Progress) (fault : Option Fault) → expression_fault s.environment.world (live_scope s.stobjs) f ≡ fault → IsWellCalled s.environment.world f → Lawful (core_outcome k s f p fault)
  core_lawful f p (Some fault) e h = with_symbols_lawful p.symbols
  core_lawful f p None e h =
      let w = s.environment.world in
      ended_lawful (live_scope s.stobjs) (outs w (live_scope s.stobjs) f) p (checked w s.environment.packages k.steps k.depth f (live s.stobjs) (begun p.symbols s.stobjs p.calls))
      (changes_only_outputs.kept w (world_threaded w l.world) w Executable (live_scope s.stobjs) f (outs w (live_scope s.stobjs) f) (world_suits w l.world) executable_not_logic e
      (formed_of w l.world.made f h.closed h.formed) s.environment.packages k.steps k.depth (live s.stobjs) (begun p.symbols s.stobjs p.calls) (live_variables s.stobjs)
      (record { known = λ x i. (live_object s.stobjs x (worlds.Stobj x) i).0; fits = λ x i. l.fits.each x (live_object s.stobjs x (worlds.Stobj x) i).0 }))

  expanded_lawful : (form : Object ℕ) (e : Expanded Core) → expanded (setting s.environment k) form (at_start s.symbols) ≡ e → Lawful (expanded_outcome k s e)
  expanded_lawful form (Makes f p) e =
      core_lawful f p (expression_fault s.environment.world (live_scope s.stobjs) f) refl (forms_are_well_called.form (setting s.environment k) l.world.functions form (at_start s.symbols) p f e)
  expanded_lawful form (Fails fault p) e = with_symbols_lawful p.symbols

  -- ---- all commands

  shown_lawful : (v : Option (StobjList ℕ)) (answer : StobjList ℕ → Answer ℕ) → ShowHolds Lawful (ways k s) s.symbols (option_map (λ m. at_once k s (answer m)) v)
  shown_lawful None answer = tt
  shown_lawful (Some m) answer = l

  all_lawful : AllWays Lawful (ways k s) s.symbols
  all_lawful = record {
    event = λ head d. event_lawful (admitted s.environment k head d (at_start s.symbols)) (event_granted s.environment l.world k head d (at_start s.symbols));
    skipped = l;
    refused = λ r. l;
    expression = λ form. expanded_lawful form (expanded (setting s.environment k) form (at_start s.symbols)) refl;
    show = λ x. shown_lawful (live_list k s x) _;
    cells = l;
  }

  pub command_lawful : (form : Object ℕ) → IsLawfulSession (command k s form).session
  unfolding command
  command_lawful form = way_holds Lawful (ways k s) s.symbols all_lawful form

pub commands_stay_lawful : CommandsStayLawful
commands_stay_lawful = record { command = λ k s form l. command_lawful k s l form }

-- ---- several commands

after_commands : (s : Session) → IsLawfulSession s → (ts : List Step) → IsLawfulSession (commanded s ts)
after_commands s l [] = l
after_commands s l (t ∷ ts) =
    after_commands (after_step s t) (command_lawful t.limits (knowing s t.read) (record { world = l.world; live = l.live; fits = l.fits }) t.form) ts

made_lawful : (s : Session) → IsMade s → IsLawfulSession s
made_lawful s m = subst IsLawfulSession (sym m.2) (after_commands opening_session opening_is_lawful.session m.0)

pub made_sessions_lawful : MadeSessionsAreLawful
made_sessions_lawful = record {
  lawful = made_lawful;
  world = λ s m. (made_lawful s m).world.lawful;
  threaded = λ s m. world_threaded s.environment.world (made_lawful s m).world;
  suits = λ s m. world_suits s.environment.world (made_lawful s m).world;
}
