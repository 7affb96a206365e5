-- Commands keep the symbols of a session a table, and those of its definitions and live stobjs known.
use Rattle.std.proofs.Common.{◌≡◌, ℕ, ◌<◌, ◌≤◌, List, [], ◌∷◌, length, ◌+◌, Option, Some, None, ap, ◌∙◌, arith}
use Rattle.std.specs.Prelude.{nat_eq, option_map}
use Rattle.std.proofs.lemmas.List.{length-append}
use Rattle.model_objects.specs.Object.{Object}
use Rattle.model_objects.specs.Named.{Knows}
use Rattle.model_symbols.specs.Symbols.{QualifiedName, Package}
use Rattle.model_symbols.specs.Tables.{IsTable}
use Rattle.model_lists.specs.Lists.{StobjList}
use Rattle.model_terms.specs.Cores.{Core}
use Rattle.model_terms.specs.Worlds as worlds
use Rattle.model_terms.specs.Worlds.{World, Definition}
use Rattle.model_terms.specs.Faults.{Fault, expression_fault}
use Rattle.model_eval.specs.Outcomes.{Stobjs, State, Outcome, Gives, Stops, Unknown}
use Rattle.model_eval.specs.Checked.{checked, begun, live}
use Rattle.model_accepted.specs.Threaded.{layout_of}
use Rattle.model_expansion.specs.Words.{in_package_word, defpkg_word, defconst_word, defmacro_word, defstobj_word, defabsstobj_word}
use Rattle.model_expansion.specs.Expansion.{Progress, Expanded, Makes, Fails, expanded, at_start}
use Rattle.model_stobjs.specs.Answers.{EventResult, Grants, Refuses, Halts}
use Rattle.model_stobjs.specs.Descriptors.{descriptor_read}
use Rattle.model_stobjs.specs.Entries.{stobj_entries}
use Rattle.model_stobjs.specs.Abstracts.{abstract_read, abstract_entries}
use Rattle.model_stobjs.specs.Obligations.{obligations, too_large}
use Rattle.model_events.specs.Functions.{functions_read}
use Rattle.model_events.specs.Macros.{macro_read}
use Rattle.model_events.specs.Constants.{constant_read, package_read, current_read}
use Rattle.model_events.specs.Events.{Environment, Limits, Obliged, Admitted, setting, defining, definitions_admitted, stobj_admitted, package_admitted, current_admitted, abstract_admitted, admitted}
use Rattle.model_books.specs.Opening.{Session}
use Rattle.model_books.specs.Commands.{Answer, Answered, live_scope, with_created, event_outcome, evaluated_outcome, core_outcome, expanded_outcome, live_list, at_once, ways, command}
use Rattle.model_books_laws.proofs.WayLemmas.{ShowHolds}
use Rattle.model_follows.specs.Follows.{table_of}
use Rattle.model_follows.proofs.EffectFollowing.{initial_known}
use Rattle.model_made.specs.Lawful.{IsLawfulSession}
use Rattle.model_made.specs.Made.{Step, knowing, HasRead}
use Rattle.model_made.proofs.WorldLemmas.{EachDefinition}
use Rattle.model_made_logic.specs.Known.{KnowsForm, KnowsStobjs, KnowsVariables, KnowsDefinition, KnowsDefinitions, Grows, EndsKnown, IsKnownSession}
use Rattle.model_made_logic.specs.Laws.{CommandsKeepTables}
use Rattle.model_made_logic.proofs.KnownLemmas.{grows_same, grows_then, stobjs_more, both_known}
use Rattle.model_made_logic.proofs.EvaluationLemmas.{ends_evaluated}
use Rattle.model_made_logic.proofs.WorldLemmas.{definitions_world, definitions_more, definitions_with}
use Rattle.model_made_logic.proofs.ExpansionLemmas.{size, FormGrows, form_expands}
use Rattle.model_made_logic.proofs.ObjectLemmas.{entries_known, abstract_known}
use Rattle.model_made_logic.proofs.WayLemmas.{KnownWays, known_way}
use Rattle.model_made_logic.proofs.EventLemmas.{Leaves, leaves_then, leaves_unless, leaves_if, NewKnown, DescriptorKnown, Whatever, MayBeAdded, package_table, current_leaves, descriptor_leaves, abstract_leaves, constant_leaves, package_leaves, macro_leaves, functions_leave}

-- ---- more symbols

symbols_keep : (s : Session) → IsKnownSession s → (symbols : List QualifiedName) → Grows s.environment.packages s.symbols symbols → IsKnownSession (record s { symbols = symbols })
symbols_keep s known symbols g =
    let enough : 2 ≤ length s.symbols = known.enough in
    let longer : length s.symbols ≤ length symbols = g.longer in
    record {
      enough = omega (arith, enough, longer);
      table = g.table known.table;
      definitions = definitions_more (length s.symbols) (length symbols) g.longer s.environment.world known.definitions;
      live = stobjs_more (length s.symbols) (length symbols) g.longer s.stobjs known.live;
    }

live_known : (n : ℕ) (os : Stobjs ℕ) → KnowsVariables n (live os)
live_known n [] = tt
live_known n (o ∷ os) = (tt, live_known n os)

module _ (k : Limits) (s : Session) (lawful : IsLawfulSession s) (known : IsKnownSession s) where
  abbrev packages : List Package
  packages = s.environment.packages

  abbrev world : World
  world = s.environment.world

  abbrev count : ℕ
  count = length s.symbols

  abbrev IsKept : Answered → Type 0
  IsKept o = IsKnownSession o.session

  -- the definitions, with more symbols
  later : (p : Progress) → count ≤ size p → KnowsDefinitions world (size p)
  later p l = definitions_more count (size p) l world known.definitions

  -- ---- events

  -- what an event that was granted leaves
  record IsGranted (symbols : List QualifiedName) (a : Admitted) : Type 0 where
    table : IsTable (table_of packages symbols) → IsTable (table_of a.environment.packages symbols)
    definitions : KnowsDefinitions a.environment.world (length symbols)

  abbrev Granted : List QualifiedName → EventResult Admitted → Type 0
  Granted old r = Leaves packages IsGranted old r

  entries_granted : (head : ℕ) (new : World) (p : Progress) → count ≤ size p → EachDefinition (KnowsDefinition (size p)) new → Granted p.symbols (definitions_admitted s.environment head new p)
  entries_granted head new p l h = (grows_same packages p.symbols, record { table = λ t. t; definitions = definitions_with world new (size p) (later p l) h })

  event_granted : (head : ℕ) (d : Object ℕ) → Knows count d → Granted s.symbols (admitted s.environment k head d (at_start s.symbols))
  unfolding admitted
  event_granted head d h =
      let p = at_start s.symbols in
      let x = setting s.environment k in
      let rows = lawful.world.functions in
      leaves_if packages IsGranted s.symbols (nat_eq head in_package_word) _ _
      (leaves_then packages Whatever IsGranted s.symbols (current_read packages d p) (current_admitted s.environment) (current_leaves world packages d p) (λ n q l u.
      (grows_same packages q.symbols, record { table = λ t. t; definitions = later q l })))
      (leaves_if packages IsGranted s.symbols (nat_eq head defpkg_word) _ _
      (leaves_then packages (MayBeAdded packages) IsGranted s.symbols (package_read x d p) (package_admitted s.environment) (package_leaves x count known.enough known.definitions rows d p (omega arith) h) (λ a q l may.
      (grows_same packages q.symbols, record { table = package_table packages q.symbols a may; definitions = later q l })))
      (leaves_if packages IsGranted s.symbols (nat_eq head defconst_word) _ _
      (leaves_then packages NewKnown IsGranted s.symbols (constant_read x d p) (definitions_admitted s.environment head) (constant_leaves x count known.enough known.definitions rows d p (omega arith) h) (entries_granted head))
      (leaves_if packages IsGranted s.symbols (nat_eq head defmacro_word) _ _
      (leaves_then packages NewKnown IsGranted s.symbols (macro_read x d p) (definitions_admitted s.environment head) (macro_leaves x count known.enough known.definitions rows d p (omega arith) h) (entries_granted head))
      (leaves_if packages IsGranted s.symbols (nat_eq head defstobj_word) _ _
      (leaves_then packages DescriptorKnown IsGranted s.symbols (descriptor_read world packages d p) (stobj_admitted s.environment) (descriptor_leaves world packages d p known.enough h) (λ o q l fields.
      (grows_same packages q.symbols, record { table = λ t. t; definitions = definitions_with world (stobj_entries world o) (size q) (later q l) (entries_known (size q) world o fields) })))
      (leaves_if packages IsGranted s.symbols (nat_eq head defabsstobj_word) _ _
      (leaves_then packages Whatever IsGranted s.symbols (abstract_read world packages d p) (abstract_admitted s.environment) (abstract_leaves world packages d p known.enough h) (λ o q l u. abstract_granted o q l))
      (leaves_then packages NewKnown IsGranted s.symbols (functions_read x head d p) (definitions_admitted s.environment head) (functions_leave x count known.enough known.definitions lawful.world head d p (omega arith) h) (entries_granted head)))))))
    where
      abstract_granted : (o : worlds.AbstractDescriptor) (q : Progress) → count ≤ size q → Granted q.symbols (abstract_admitted s.environment o q)
      abstract_granted o q l =
          let os = obligations world q.symbols o in
          let two : 2 ≤ count = known.enough in
          leaves_unless packages IsGranted (too_large os) (Grants (record { environment = defining s.environment (abstract_entries world o); created = Some o.name; said = Obliged o.name os })) q (λ light.
          (grows_same packages q.symbols, record { table = λ t. t; definitions = definitions_with world (abstract_entries world o) (size q) (later q l) (abstract_known (size q) (omega (arith, two, l)) world (later q l) o) }))

  created_known : (n : ℕ) (environment : Environment) (v : Option ℕ) → KnowsDefinitions environment.world n → KnowsStobjs n s.stobjs → KnowsStobjs n (with_created k s environment v)
  created_known n environment None d h = h
  created_known n environment (Some x) d h =
      both_known n s.stobjs _ h (initial_known (λ t. t < n) (layout_of environment.world x) ((definitions_world environment.world n d).layouts x), tt)

  event_known : (r : EventResult Admitted) → Granted s.symbols r → IsKept (event_outcome k s r)
  event_known (Grants a p) g =
      let enough : 2 ≤ count = known.enough in
      let longer : count ≤ size p = g.0.longer in
      record {
        enough = omega (arith, enough, longer);
        table = g.1.table (g.0.table known.table);
        definitions = g.1.definitions;
        live = created_known (size p) a.environment a.created g.1.definitions (stobjs_more count (size p) longer s.stobjs known.live);
      }
  event_known (Refuses r p) g = symbols_keep s known p.symbols g
  event_known (Halts stop inside p) g = symbols_keep s known p.symbols g

  -- ---- expressions

  state_known : (p : Progress) (state : State ℕ) → Grows packages s.symbols p.symbols → Grows packages p.symbols state.symbols → KnowsStobjs (length state.symbols) state.stobjs → IsKnownSession (record s { symbols = state.symbols; stobjs = state.stobjs })
  state_known p state g h objects =
      let all = symbols_keep s known state.symbols (grows_then packages s.symbols p.symbols state.symbols g h) in
      record { enough = all.enough; table = all.table; definitions = all.definitions; live = objects }

  outcome_known : (p : Progress) (e : Outcome ℕ) → Grows packages s.symbols p.symbols → EndsKnown packages p.symbols e → IsKept (evaluated_outcome k s p e)
  outcome_known p (Gives values state) g h = state_known p state g h.0 h.2
  outcome_known p (Stops stop origin state) g h = state_known p state g h.0 h.1
  outcome_known p Unknown g h = known

  core_known : (f : Core) (p : Progress) (fault : Option Fault) → Grows packages s.symbols p.symbols → KnowsForm (size p) f → IsKept (core_outcome k s f p fault)
  core_known f p (Some fault) g h = symbols_keep s known p.symbols g
  core_known f p None g h =
      let enough : 2 ≤ count = known.enough in
      let longer : count ≤ size p = g.longer in
      outcome_known p (checked world packages k.steps k.depth f (live s.stobjs) (begun p.symbols s.stobjs p.calls)) g
      (ends_evaluated world (size p) (omega (arith, enough, longer)) (definitions_world world (size p) (later p longer)) packages k.steps k.depth f (live s.stobjs) (begun p.symbols s.stobjs p.calls) h (omega arith) (live_known (size p) s.stobjs)
      (stobjs_more count (size p) longer s.stobjs known.live))

  form_known : (e : Expanded Core) → FormGrows (setting s.environment k) count known.enough known.definitions lawful.world.functions s.symbols e → IsKept (expanded_outcome k s e)
  form_known (Makes f p) h = core_known f p (expression_fault world (live_scope s.stobjs) f) h.0 h.1
  form_known (Fails fault p) h = symbols_keep s known p.symbols h

  -- ---- all commands

  shown_known : (v : Option (StobjList ℕ)) (answer : StobjList ℕ → Answer ℕ) → ShowHolds IsKept (ways k s) s.symbols (option_map (λ m. at_once k s (answer m)) v)
  shown_known None answer = tt
  shown_known (Some m) answer = known

  all_known : KnownWays IsKept (ways k s) s.symbols count
  all_known = record {
    event = λ head d h. event_known (admitted s.environment k head d (at_start s.symbols)) (event_granted head d h);
    skipped = known;
    refused = λ r. known;
    expression = λ form h.
        form_known (expanded (setting s.environment k) form (at_start s.symbols)) (form_expands (setting s.environment k) count known.enough known.definitions lawful.world.functions form (at_start s.symbols) (omega arith) h);
    show = λ x. shown_known (live_list k s x) _;
    cells = known;
  }

  pub command_known : (form : Object ℕ) → Knows count form → IsKnownSession (command k s form).session
  unfolding command
  command_known form h = known_way IsKept (ways k s) s.symbols count all_known form h

-- ---- reading

pub read_known : (s : Session) (t : Step) → IsKnownSession s → HasRead s t → IsKnownSession (knowing s t.read)
read_known s t known read =
    let more : length t.read ≡ length s.symbols + length read.added.0 = ap length read.added.1 ∙ length-append s.symbols read.added.0 in
    symbols_keep s known t.read (record { longer = omega (arith, more); table = λ old. read.table })

pub commands_keep_tables : CommandsKeepTables
commands_keep_tables = record { command = λ k s form lawful known h. command_known k s lawful known form h; read = read_known }
