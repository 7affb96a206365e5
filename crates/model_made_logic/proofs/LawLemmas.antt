-- The laws of definitions and of sessions that commands have made, from their lemmas.
use Rattle.std.proofs.Common.{◌≡◌, ℕ, List, [], ◌∷◌, ◌++◌, length, true, Some, refl, sym, ap, ◌∙◌, subst}
use Rattle.std.specs.Prelude.{slice_get}
use Rattle.model_symbols.specs.Symbols.{QualifiedName, Package}
use Rattle.model_symbols.specs.Opening.{truth, nil, truth_name, nil_name, opening, common_lisp_symbols, common_lisp_text}
use Rattle.model_symbols.proofs.Positions.{slice_get-left}
use Rattle.model_prims.specs.Laws.{NamesTruth}
use Rattle.model_books_laws.proofs.CommandLemmas.{commands_count}
use Rattle.model_follows.specs.Follows.{table_of}
use Rattle.model_terms.specs.Worlds.{Function, Defined, Generated, OfAbstract, definition}
use Rattle.model_terms.specs.Sites.{one_ordinary}
use Rattle.model_follows.specs.FollowedWorlds.{IsSuited}
use Rattle.model_follows.specs.Abstract.{abstract_of}
use Rattle.model_made_logic.proofs.KnownLemmas.{list_known}
use Rattle.model_books.specs.Opening.{Session, opening_session}
use Rattle.model_events.specs.Events.{setting}
use Rattle.model_made.specs.Lawful.{IsLawfulSession}
use Rattle.model_made.specs.Made.{Step, knowing, after_step, commanded, AreRead, IsMade}
use Rattle.model_made.proofs.CommandLemmas.{commands_stay_lawful, made_sessions_lawful}
use Rattle.model_made.proofs.OpeningLemmas.{opening_is_lawful}
use Rattle.model_terms.specs.Outputs.{outs}
use Rattle.model_expansion.specs.Expansion.{at_start}
use Rattle.model_expansion_forms.proofs.LawLemmas.{forms_are_known, forms_are_well_called}
use Rattle.model_books.specs.Commands.{live_scope}
use Rattle.model_made_logic.specs.Known.{IsKnownSession}
use Rattle.model_made_logic.specs.Laws.{AcceptedFormsAreSuited, DefinitionsSupply, MadeStobjsAreStocked, MadeSessionsAreKnown, MadeWorldsAreFollowed}
use Rattle.model_made_logic.proofs.WorldLemmas.{definitions_world}
use Rattle.model_made_logic.proofs.ExpansionLemmas.{world_supplies}
use Rattle.model_made_logic.proofs.CommandLemmas.{command_known, read_known}
use Rattle.model_made_logic.proofs.OpeningLemmas.{opening_known}
use Rattle.model_made_logic.proofs.StockLemmas.{IsStocked, stocked_initials, stocked_made}
use Rattle.model_made_logic.proofs.StockCommands.{command_stocked, opening_stocked}
use Rattle.model_made_logic.proofs.AbstractStockLemmas.{abstracts_made, functions_of_abstract}
use Rattle.model_made_logic.proofs.SuitedLemmas.{accepted_suited, checked_suited, function_suited}

pub definitions_supply : DefinitionsSupply
definitions_supply = record { world = definitions_world; supplies = world_supplies }

-- a session that is lawful and known stays so, command by command
after_commands : (s : Session) → IsLawfulSession s → IsKnownSession s → (ts : List Step) → AreRead s ts → IsKnownSession (commanded s ts)
after_commands s lawful known [] read = known
after_commands s lawful known (t ∷ ts) read =
    let there : IsLawfulSession (knowing s t.read) = record { world = lawful.world; live = lawful.live; fits = lawful.fits } in
    after_commands (after_step s t) (commands_stay_lawful.command t.limits (knowing s t.read) t.form there) (command_known t.limits (knowing s t.read) there (read_known s t known read.0) t.form read.0.known) ts read.1

pub made_known : (s : Session) → IsMade s → IsKnownSession s
made_known s m = subst IsKnownSession (sym m.2) (after_commands opening_session opening_is_lawful.session opening_known m.0 m.1)

-- the symbols of `T` and `NIL`, as symbols are added
truth_added : (ps qs : List Package) (old new : List QualifiedName) → NamesTruth (table_of ps old) → (added : List QualifiedName) × (new ≡ old ++ added) → NamesTruth (table_of qs new)
truth_added ps qs old new n a = record {
  at_truth = ap (λ (ss : List QualifiedName). slice_get ss truth) a.1 ∙ slice_get-left old a.0 truth truth_name n.at_truth;
  at_nil = ap (λ (ss : List QualifiedName). slice_get ss nil) a.1 ∙ slice_get-left old a.0 nil nil_name n.at_nil;
}

after_truth : (s : Session) → NamesTruth (table_of s.environment.packages s.symbols) → (ts : List Step) → AreRead s ts → NamesTruth (table_of (commanded s ts).environment.packages (commanded s ts).symbols)
after_truth s n [] read = n
after_truth s n (t ∷ ts) read =
    let there = truth_added s.environment.packages s.environment.packages s.symbols t.read n read.0.added in
    after_truth (after_step s t) (truth_added s.environment.packages (after_step s t).environment.packages t.read (after_step s t).symbols there (commands_count.symbols t.limits (knowing s t.read) t.form)) ts read.1

opening_truth : NamesTruth (table_of opening_session.environment.packages opening_session.symbols)
unfolding opening_session opening common_lisp_symbols common_lisp_text
opening_truth = record { at_truth = refl; at_nil = refl }

made_truth : (s : Session) → IsMade s → NamesTruth (table_of s.environment.packages s.symbols)
made_truth s m = subst (λ (q : Session). NamesTruth (table_of q.environment.packages q.symbols)) (sym m.2) (after_truth opening_session opening_truth m.0 m.1)

pub made_sessions_known : MadeSessionsAreKnown
made_sessions_known = record {
  opening = opening_known;
  known = made_known;
  table = λ s m. (made_known s m).table;
  truth = made_truth;
  live = λ s m x. list_known (length s.symbols) s.stobjs x (made_known s m).live;
  world = λ s m. definitions_world s.environment.world _ (made_known s m).definitions;
  supplies = λ s k m. world_supplies (setting s.environment k) _ (made_known s m).enough (made_known s m).definitions;
}

-- ---- concrete stobjs

after_stocked : (s : Session) → IsLawfulSession s → IsStocked s.environment.world → (ts : List Step) → IsStocked (commanded s ts).environment.world
after_stocked s lawful stocked [] = stocked
after_stocked s lawful stocked (t ∷ ts) =
    let there : IsLawfulSession (knowing s t.read) = record { world = lawful.world; live = lawful.live; fits = lawful.fits } in
    after_stocked (after_step s t) (commands_stay_lawful.command t.limits (knowing s t.read) t.form there) (command_stocked t.limits (knowing s t.read) lawful.world stocked t.form) ts

pub made_stocked : (s : Session) → IsMade s → IsStocked s.environment.world
made_stocked s m = subst (λ (q : Session). IsStocked q.environment.world) (sym m.2) (after_stocked opening_session opening_is_lawful.session opening_stocked m.0)

pub made_stobjs_stocked : MadeStobjsAreStocked
made_stobjs_stocked = record { made = λ s m. stocked_made s.environment.world (made_stocked s m); initials = λ s m. stocked_initials s.environment.world (made_stocked s m); plain = λ s m x g e. ap abstract_of ((made_stocked s m).each x (Generated g) e).there }

-- ---- forms

pub accepted_forms_suited : AcceptedFormsAreSuited
accepted_forms_suited = record {
  suited = λ s m k form symbols longer h f p e fault.
      let w = s.environment.world in
      let known : IsKnownSession s = made_known s m in
      let rows = (made_sessions_lawful.lawful s m).world.functions in
      accepted_suited w (made_stocked s m) (abstracts_made w (made_stocked s m)) (length p.symbols) (live_scope s.stobjs) f (outs w (live_scope s.stobjs) f) fault
      (forms_are_known.form (setting s.environment k) (length s.symbols) rows (world_supplies (setting s.environment k) (length s.symbols) known.enough known.definitions) form (at_start symbols) p f longer h e)
      (forms_are_well_called.form (setting s.environment k) rows form (at_start symbols) p f e).several;
}

-- ---- worlds

functions_suited : (s : Session) → IsMade s → (x : ℕ) (f : Function) → definition s.environment.world x ≡ Some (Defined f) → f.executable ≡ true
    → IsSuited s.environment.world (length s.symbols) f.guard × IsSuited s.environment.world (length s.symbols) f.body
functions_suited s m x f e runs =
    let w = s.environment.world in
    let h = (made_stocked s m).each x (Defined f) e in
    function_suited w (made_stocked s m) (abstracts_made w (made_stocked s m)) (length s.symbols) f ((made_sessions_lawful.lawful s m).world.lawful.each x (Defined f) e runs) ((made_known s m).definitions.each x (Defined f) e) (h.0, h.1)

pub made_worlds_followed : MadeWorldsAreFollowed
made_worlds_followed = record {
  functions = functions_suited;
  followed = λ s m none. record {
    functions = functions_suited s m;
    made = stocked_made s.environment.world (made_stocked s m);
    layouts = (definitions_world s.environment.world (length s.symbols) (made_known s m).definitions).layouts;
    initials = stocked_initials s.environment.world (made_stocked s m);
    concrete = none;
  };
  creators = λ s m. abstracts_made s.environment.world (made_stocked s m);
  abstracts = λ s m. functions_of_abstract s.environment.world (made_stocked s m);
  exports = λ s m x f e is.
      let w = s.environment.world in
      checked_suited w (made_stocked s m) (abstracts_made w (made_stocked s m)) (length s.symbols) f.formals f.signature.ins f.guard one_ordinary (((made_sessions_lawful.lawful s m).world.lawful.each x (OfAbstract f) e).0 is).guard
      ((made_known s m).definitions.each x (OfAbstract f) e) ((made_stocked s m).each x (OfAbstract f) e).several;
}
