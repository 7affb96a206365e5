-- A table of terms fits a world with more definitions.
use Rattle.std.specs.Prelude.{◌≡◌, ◌≤◌, List, [], ◌∷◌, ◌++◌, length, take, refl}
use Rattle.std.specs.List.{AllByRecursion}
use Rattle.std.proofs.Common.{sym, ap, subst, arith}
use Rattle.model_symbols.specs.Symbols.{Table}
use Rattle.model_terms.specs.Worlds.{World}
use Rattle.model_known.specs.Known.{KnowsStarts}
use Rattle.model_events.specs.Functions.{Candidate, signatures}
use Rattle.model_made.specs.Lawful.{IsLawfulWorld}
use Rattle.model_origins.specs.Plain.{IsOfNoStobj, IsPlain}
use Rattle.model_origins.specs.Admitted.{AreAdmitted}
use Rattle.model_origins.proofs.KeepLemmas.{all_no_stobj}
use Rattle.model_origins.proofs.FunctionLemmas.{all_defined}
use Rattle.acl_heap.specs.Objects.{Objects}
use Rattle.acl_terms.specs.Definitions.{seen_definitions, definitions_reach}
use Rattle.acl_terms.specs.declared.definition.Definition.{Definition}
use Rattle.acl_worlds.specs.Contents.{Content, IsWorld, WorldLies, seen_world}
use Rattle.acl_code.specs.declared.term.Term.{Term}
use Rattle.acl_code.specs.Tables.{Grown, forest}
use Rattle.acl_machine.specs.Views.{code_with}
use Rattle.acl_exec_turns.proofs.ReadLemmas.{primitives_stand}
use Rattle.acl_layouts.specs.Typed.{AcceptsTypes}
use Rattle.acl_cliques.specs.Entered.{Entered}
use Rattle.acl_tables.specs.Plain.{HasNoCode}
use Rattle.acl_tables.specs.Within.{AllWithin}
use Rattle.acl_tables.proofs.KeepLemmas.{plain_definitions_keep_trees}
use Rattle.acl_tables.proofs.TreeLemmas.{functions_bring_trees}
use Rattle.acl_origins.specs.Bodies.{MacrosWithin, HasNoBody, HadBodies}
use Rattle.acl_origins.specs.Were.{WereRun}
use Rattle.acl_origins.proofs.RunLemmas.{all_plain, plain_definitions_keep_runs, stobjs_keep_runs}
use Rattle.acl_origins.proofs.EnteredLemmas.{functions_keep_runs}
use Rattle.acl_origins.proofs.BodyLemmas.{bodies_are_kept}
use Rattle.acl_fitting.specs.Going.{FitsOn, TableGrows}
use Rattle.acl_fitting.specs.Laws.{PlainDefinitionsFit, TablesStay, FunctionsFit, StobjsFit}
use Rattle.acl_fitting.proofs.WorldLemmas.{all_lie, world_fits, none_typed, none_known}

take_all : {A : Type 0} (xs : List A) → take (length xs) xs ≡ xs
take_all [] = refl
take_all (x ∷ xs) = ap (λ (ys : List _). x ∷ ys) (take_all xs)

-- a table is a table that has grown by nothing
same_table : (ts : List Term) → Grown ts ts
same_table ts = record { longer = omega arith; same = take_all ts }

module _ (t : Table) (h : Objects) (old new : Content) (ds : List Definition) (before after : List Term) (table : TableGrows h (length t.symbols) before after) (world : IsWorld new)
    (e : new.definitions ≡ old.definitions ++ ds) (lies : WorldLies h new) (typed : AcceptsTypes (seen_definitions h ds)) (starts : KnowsStarts (length t.symbols) (seen_definitions h ds))
    (l : IsLawfulWorld (seen_world h old)) (f : FitsOn before h old t) (runs : WereRun (seen_world h new) (code_with (forest h after) new.definitions))
    (new_macros : MacrosWithin after ds) (new_bodies : HadBodies h (seen_world h new) after ds) (within : AllWithin after new.definitions) where
  bodies : HadBodies h (seen_world h new) after new.definitions
  bodies = bodies_are_kept.had h old new ds before after e l f.macros table.grown f.bodies new_bodies

  fits_with : FitsOn after h new t
  fits_with = record {
    fits = record {
      lie = table.lie;
      known = table.known;
      primitives = primitives_stand new world;
      opens = f.fits.opens;
      world = world_fits h old new ds (length t.symbols) e lies typed starts f.fits.world;
      runs = runs.run;
      bodies = λ m c. (bodies.each m c).has;
    };
    runs = runs;
    bodies = bodies;
    within = within;
    macros = subst (λ (all : List Definition). MacrosWithin after all) (sym e) (bodies_are_kept.within old.definitions ds before after f.macros table.grown new_macros);
  }

all_within : (h : Objects) (old new : Content) (ds : List Definition) (before after : List Term) → new.definitions ≡ old.definitions ++ ds → AllWithin before old.definitions → Grown before after → AllByRecursion HasNoCode ds
    → AllWithin after new.definitions
all_within h old new ds before after e within grown plain =
    subst (λ (all : List Definition). AllWithin after all) (sym e) (plain_definitions_keep_trees.within old.definitions ds before after within grown plain)

plain_fit : (t : Table) (h : Objects) (old new : Content) (ds : List Definition) (before after : List Term) → TableGrows h (length t.symbols) before after → IsWorld new → new.definitions ≡ old.definitions ++ ds
    → definitions_reach ds ≤ length h → AllByRecursion IsPlain (seen_definitions h ds) → MacrosWithin after ds → HadBodies h (seen_world h new) after ds → IsLawfulWorld (seen_world h old)
    → FitsOn before h old t → FitsOn after h new t
plain_fit t h old new ds before after table world e reach plain macros bodies l f =
    let none = all_no_stobj (seen_definitions h ds) plain in
    fits_with t h old new ds before after table world e (all_lie h old new ds e f.fits.world.lies reach) (none_typed (seen_definitions h ds) none) (none_known (length t.symbols) (seen_definitions h ds) none) l f
    (plain_definitions_keep_runs.were h old new ds before after e plain f.within table.grown l f.runs) macros bodies
    (all_within h old new ds before after e f.within table.grown (all_plain h ds plain))

functions_in : (t : Table) (h : Objects) (old new : Content) (cs : List Candidate) (before after : List Term) → TableGrows h (length t.symbols) before after → IsWorld new → Entered h old new after cs
    → AreAdmitted (seen_world h old) cs → IsLawfulWorld (seen_world h old) → FitsOn before h old t → FitsOn after h new t
functions_in t h old new cs before after table world entered a l f =
    let ds = entered.definitions in
    let e : new.definitions ≡ old.definitions ++ ds = ap (λ (x : Content). x.definitions) entered.is in
    let none : AllByRecursion IsOfNoStobj (seen_definitions h ds)
    = subst (λ (u : World). AllByRecursion IsOfNoStobj u) (sym entered.seen) (all_defined (signatures (seen_world h old) cs) cs) in
    let bare = bodies_are_kept.functions h old new after cs entered in
    fits_with t h old new ds before after table world e (all_lie h old new ds e f.fits.world.lies entered.lie) (none_typed (seen_definitions h ds) none) (none_known (length t.symbols) (seen_definitions h ds) none) l f
    (functions_keep_runs.were h old new before after cs l a f.within table.grown entered f.runs)
    (bodies_are_kept.none_within after ds bare) (bodies_are_kept.none h (seen_world h new) after ds bare)
    (functions_bring_trees.within h old new before after cs f.within table.grown entered)

unchanged : (t : Table) (h : Objects) (w : Content) (terms : List Term) → FitsOn terms h w t → TableGrows h (length t.symbols) terms terms
unchanged t h w terms f = record { grown = same_table terms; lie = f.fits.lie; known = f.fits.known }

stobjs_in : (t : Table) (h : Objects) (old new : Content) (ds : List Definition) (terms : List Term) → IsWorld new → new.definitions ≡ old.definitions ++ ds → WorldLies h new
    → AllByRecursion HasNoCode ds → AllByRecursion HasNoBody ds → AcceptsTypes (seen_definitions h ds) → KnowsStarts (length t.symbols) (seen_definitions h ds)
    → IsLawfulWorld (seen_world h old) → IsLawfulWorld (seen_world h new) → FitsOn terms h old t → FitsOn terms h new t
stobjs_in t h old new ds terms world e lies plain bare typed starts l k f =
    let table = unchanged t h old terms f in
    let grown = table.grown in
    fits_with t h old new ds terms terms table world e lies typed starts l f
    (stobjs_keep_runs.were h old new ds terms terms e plain f.within grown l k f.runs)
    (bodies_are_kept.none_within terms ds bare) (bodies_are_kept.none h (seen_world h new) terms ds bare)
    (all_within h old new ds terms terms e f.within grown plain)

pub tables_stay : TablesStay
tables_stay = record { same = unchanged }

pub plain_definitions_fit : PlainDefinitionsFit
plain_definitions_fit = record { fit = plain_fit }

pub functions_fit : FunctionsFit
functions_fit = record { fit = functions_in }

pub stobjs_fit : StobjsFit
stobjs_fit = record { fit = stobjs_in }
