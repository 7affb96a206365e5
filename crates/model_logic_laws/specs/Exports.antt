-- What the obligations of an export say of its functions, as a law: of calls over the values of variables.
use Rattle.std.specs.Prelude.{◌≡◌, ℕ, List, [], ◌∷◌, map, Bool, if◌then◌else◌}
use Rattle.model_objects.specs.Object.{Symbol}
use Rattle.model_symbols.specs.Symbols.{symbol_at}
use Rattle.model_symbols.specs.Opening.{nil, nil_name, truth_name}
use Rattle.model_prims.specs.Kinds.{by_name}
use Rattle.model_prims.specs.Lists.{element}
use Rattle.model_terms.specs.Worlds.{Out, AbstractFunction, AbstractDescriptor}
use Rattle.model_stobjs.specs.Abstracts.{signature, export_formals, logic_guard}
use Rattle.model_stobjs.specs.Obligations.{Correspondence, Preserved, obligation, and_guard, st, is_well_formed, hypothesis, exec_actuals, logic_call, exec_call, outputs_correspond, part_of}
use Rattle.model_logic.specs.Logic.{Theory, Thing, Values, value_in, CallEndsWith}
use Rattle.model_abstract.specs.Rules.{out_parts}
use Rattle.model_abstract.specs.Corresponding.{CallHolds}
use Rattle.model_abstract_books.specs.Holding.{Holds}
use Rattle.model_logic_laws.specs.Equations.{HasEqualAndNth, EndsTrue, OutputsMeet}

pub record ObligationsTellExports : Type 0 where
  -- where the lists correspond and the logic guard holds, both functions end, with outputs that meet
  pub correspondence : (b : Theory) (d : AbstractDescriptor) (f : AbstractFunction) → HasEqualAndNth b → symbol_at b.symbols nil ≡ nil_name → (first : Out) (others : List Out) → (signature b.world f.exec).outs ≡ first ∷ others
      → Holds b (obligation b.world b.symbols d f.name Correspondence (hypothesis b.world b.symbols d f) (outputs_correspond b.world b.symbols d (signature b.world f.exec).outs (logic_call b.world b.symbols d f) (exec_call b.world b.symbols d f)))
      → (values : Values) → CallHolds b d.corr (value_in values d.foundation ∷ value_in values d.name ∷ []) → EndsTrue b (logic_guard b.world d f) values
      → (e : Thing) × (l : Thing) × CallEndsWith b f.exec (map (value_in values) (exec_actuals b.world b.symbols d f)) e × CallEndsWith b f.logic (map (value_in values) (export_formals b.world d f)) l
      × OutputsMeet b d.corr (first ∷ others) (out_parts b 0 (first ∷ others) e) (out_parts b 0 (first ∷ others) l)
  -- where the list is well formed and the logic guard holds, the list that the logic function gives is well formed
  pub preserved : (b : Theory) (d : AbstractDescriptor) (f : AbstractFunction) → HasEqualAndNth b → (i : ℕ) (alone : Bool)
      → Holds b (obligation b.world b.symbols d f.name Preserved (and_guard (is_well_formed b.world b.symbols d (st b.world b.symbols d)) (logic_guard b.world d f))
      (is_well_formed b.world b.symbols d (if alone then logic_call b.world b.symbols d f else part_of i (logic_call b.world b.symbols d f)) ∷ []))
      → (values : Values) → CallEndsWith b d.recognizer.logic (value_in values d.name ∷ []) (Symbol truth_name) → EndsTrue b (logic_guard b.world d f) values
      → (l : Thing) → CallEndsWith b f.logic (map (value_in values) (export_formals b.world d f)) l → CallEndsWith b d.recognizer.logic ((if alone then l else element by_name i l) ∷ []) (Symbol truth_name)
