-- What the printed form of a correspondence says of the outputs of both functions, as a law.
use Rattle.std.specs.Prelude.{◌≡◌, ℕ, List, [], ◌∷◌, map, false, Some}
use Rattle.model_symbols.specs.Symbols.{QualifiedName, symbol_at}
use Rattle.model_symbols.specs.Opening.{nil, nil_name}
use Rattle.model_prims.specs.Kinds.{by_name, is_nil}
use Rattle.model_prims.specs.Rows.{Row}
use Rattle.model_prims.specs.declared.prim.Prim.TheVariants as prim
use Rattle.model_prims.specs.declared.prim.Relation.TheVariants as relation
use Rattle.model_prims.specs.declared.prim.Listing.TheVariants as listing
use Rattle.model_terms.specs.Cores.{Core, Var}
use Rattle.model_terms.specs.Worlds.{Out, Ordinary, Stobj, AbstractDescriptor, Primitive, definition}
use Rattle.model_expansion.specs.Words.{equal_word, nth_word}
use Rattle.model_stobjs.specs.Obligations.{all_core, call_of, outputs_correspond}
use Rattle.model_logic.specs.Logic.{Theory, Thing, Values, value_in, EndsWith, CallEndsWith}
use Rattle.model_abstract.specs.Rules.{out_parts}
use Rattle.model_abstract.specs.Corresponding.{CallHolds}

-- `EQUAL` and `NTH` are the primitives
pub record HasEqualAndNth (b : Theory) : Type 0 where
  pub equal_name : ℕ
  pub equal_row : Row
  pub equal : definition b.world equal_word ≡ Some (Primitive equal_name equal_row)
  pub is_equal : equal_row.prim ≡ prim.Relation relation.Equal
  pub nth_name : ℕ
  pub nth_row : Row
  pub nth : definition b.world nth_word ≡ Some (Primitive nth_name nth_row)
  pub is_nth : nth_row.prim ≡ prim.Listing listing.Nth

-- the form ends with a value other than `NIL`
abbrev pub EndsTrue : Theory → Core → Values → Type 0
EndsTrue b f values = (v : Thing) × EndsWith b f values v × (is_nil by_name v ≡ false)

-- ordinary outputs are equal, and the stobjs correspond
abbrev pub OutputsMeet : Theory → ℕ → List Out → List Thing → List Thing → Type 0
OutputsMeet b corr [] [] [] = Unit {0}
OutputsMeet b corr [] [] (l ∷ ls) = ⊥
OutputsMeet b corr [] (e ∷ es) ls = ⊥
OutputsMeet b corr (k ∷ ks) [] ls = ⊥
OutputsMeet b corr (k ∷ ks) (e ∷ es) [] = ⊥
OutputsMeet b corr (Ordinary ∷ ks) (e ∷ es) (l ∷ ls) = (e ≡ l) × OutputsMeet b corr ks es ls
OutputsMeet b corr (Stobj x ∷ ks) (e ∷ es) (l ∷ ls) = CallHolds b corr (e ∷ l ∷ []) × OutputsMeet b corr ks es ls

-- where the equations of the outputs of two calls over variables hold, both calls end, and their outputs meet
pub record EquationsTellOutputs : Type 0 where
  pub tell : (b : Theory) (symbols : List QualifiedName) (d : AbstractDescriptor) → HasEqualAndNth b → symbol_at b.symbols nil ≡ nil_name → (first : Out) (others : List Out) (logic exec : ℕ) (xs ys : List ℕ) (values : Values)
      → EndsTrue b (all_core (outputs_correspond b.world symbols d (first ∷ others) (call_of logic (map Var xs)) (call_of exec (map Var ys)))) values
      → (e : Thing) × (l : Thing) × CallEndsWith b exec (map (value_in values) ys) e × CallEndsWith b logic (map (value_in values) xs) l
      × OutputsMeet b d.corr (first ∷ others) (out_parts b 0 (first ∷ others) e) (out_parts b 0 (first ∷ others) l)
