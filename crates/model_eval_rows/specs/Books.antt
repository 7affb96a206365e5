-- Worlds of small books, and how rows are written.
use Rattle.std.specs.Prelude.{◌≡◌, ℕ, ◌+◌, List, [], ◌∷◌, map, true, Option, Some, None, pos}
use Rattle.model_objects.specs.Object.{Object, Integer, Symbol}
use Rattle.model_symbols.specs.Opening.{nil, truth}
use Rattle.model_prims.specs.Rows.{lisp}
use Rattle.model_prims.specs.declared.prim.Prim.{Prim}
use Rattle.model_prims.specs.declared.prim.Prim.TheVariants.{Recognizer, Relation, Arithmetic, Listing}
use Rattle.model_prims.specs.declared.prim.Recognizer.TheVariants as recognizer
use Rattle.model_prims.specs.declared.prim.Relation.TheVariants as relation
use Rattle.model_prims.specs.declared.prim.Arithmetic.TheVariants as arithmetic
use Rattle.model_prims.specs.declared.prim.Listing.TheVariants as listing
use Rattle.model_lists.specs.Lists.{StobjList, Value, End, Item}
use Rattle.model_lists.specs.Types.{integer_word}
use Rattle.model_terms.specs.Cores.{Core, Const, If, Call, cores}
use Rattle.model_terms.specs.Worlds.{World, Definition, Out, Ordinary, Shape, Scalar, Primitive, Defined, Concrete, Generated}
use Rattle.model_terms.specs.declared.role.Role.{Role}
use Rattle.model_eval.specs.Outcomes.{Shown, Stop, State, Origin, Outcome, Gives, Stops}
use Rattle.model_eval.specs.Checked.{checked, begun, live}

-- ---- forms and values

abbrev pub number : ℕ → Object ℕ
number n = Integer (pos n)

abbrev pub symbol : ℕ → Object ℕ
symbol s = Symbol s

abbrev pub int : ℕ → Core
int n = Const (number n)

abbrev pub quoted : ℕ → Core
quoted s = Const (Symbol s)

abbrev pub call : ℕ → List Core → Core
call f actuals = Call f (cores actuals)

-- (IF a b 'NIL)
abbrev pub both_hold : Core → Core → Core
both_hold a b = If a b (quoted nil)

abbrev pub always : Core
always = quoted truth

abbrev pub items : List (StobjList ℕ) → StobjList ℕ
items [] = End
items (x ∷ xs) = Item x (items xs)

abbrev pub numbers : List ℕ → StobjList ℕ
numbers ns = items (map (λ n. Value (number n)) ns)

-- ---- primitives, by the numbers of their names

abbrev pub car_word : ℕ
car_word = 6

abbrev pub cons_word : ℕ
cons_word = 8

abbrev pub not_word : ℕ
not_word = 13

abbrev pub integerp_word : ℕ
integerp_word = 19

abbrev pub below_word : ℕ
below_word = 20

abbrev pub plus_word : ℕ
plus_word = 128

abbrev pub minus_word : ℕ
minus_word = 130

abbrev pub zp_word : ℕ
zp_word = 134

abbrev pub natp_word : ℕ
natp_word = 136

abbrev pub primitive : ℕ → ℕ → Prim → Definition
primitive name arity p = Primitive name (lisp [] arity p)

abbrev pub primitives : World
primitives =
    primitive car_word 1 (Listing listing.Car)
    ∷ primitive cons_word 2 (Listing listing.Cons)
    ∷ primitive not_word 1 (Recognizer recognizer.Not)
    ∷ primitive integerp_word 1 (Recognizer recognizer.Integerp)
    ∷ primitive below_word 2 (Relation relation.Below)
    ∷ primitive plus_word 2 (Arithmetic arithmetic.Plus)
    ∷ primitive minus_word 1 (Arithmetic arithmetic.Minus)
    ∷ primitive zp_word 1 (Recognizer recognizer.Zp)
    ∷ primitive natp_word 1 (Recognizer recognizer.Natp)
    ∷ []

-- ---- definitions

abbrev pub ordinary_ins : List ℕ → List Out
ordinary_ins formals = map (λ (x : ℕ). Ordinary) formals

-- a function with these inputs and outputs
abbrev pub function : ℕ → List ℕ → List Out → List Out → Core → Core → Definition
function name formals ins outs guard body = Defined (record {
  name = name;
  formals = formals;
  signature = record { ins = ins; outs = outs };
  guard = guard;
  body = body;
  executable = true;
})

-- a function of the field of this number
abbrev pub generated : ℕ → ℕ → ℕ → Role → List Out → List Out → Definition
generated name stobj field what ins outs = Generated (record {
  name = name;
  stobj = stobj;
  field = Some field;
  role = what;
  signature = record { ins = ins; outs = outs };
})

-- a stobj with its creator, where the rows need it
abbrev pub created_stobj : ℕ → ℕ → List Shape → Option ℕ → ℕ → Definition
created_stobj creator name shapes congruent_to class = Concrete (record {
  name = name;
  recognizer = 0;
  creator = creator;
  fields = map (λ (s : Shape). record { name = 0; shape = s; made = [] }) shapes;
  congruent_to = congruent_to;
}) class

abbrev pub stobj : ℕ → List Shape → Option ℕ → ℕ → Definition
stobj name shapes congruent_to class = created_stobj 0 name shapes congruent_to class

-- a field of type `integer` with 0 at first
abbrev pub integer_field : Shape
integer_field = Scalar (Symbol integer_word) (number 0)

-- ---- rows

-- a form, evaluated with stobjs in scope, a limit of calls and a limit of open forms; and what it ends with
pub record Row : Type 0 where
  pub world : World
  pub limit : ℕ
  pub depth : ℕ
  pub stobjs : List (ℕ × StobjList ℕ)
  pub form : Core
  pub answer : Outcome ℕ

abbrev pub state : List (ℕ × StobjList ℕ) → ℕ → ℕ → State ℕ
state stobjs calls outer = record { stobjs = stobjs; symbols = []; calls = calls; outer = outer }

abbrev pub outcome : Row → Outcome ℕ
outcome r =
    checked r.world [] r.limit r.depth r.form (live r.stobjs) (begun [] r.stobjs 0)

-- the definitions give each answer
pub record AreRight (rows : List Row) : Type 0 where
  pub all : map outcome rows ≡ map (λ (r : Row). r.answer) rows

-- where a stop came from: the outermost export that it came inside, and the number of the outer call of the outermost export
-- that was under way, or of the next outer call
abbrev pub origin : Option ℕ → ℕ → Origin
origin inside cut = record { inside = inside; cut = cut }

-- values, or a stop, after so many calls, none of them inside an export or of one
abbrev pub gives : List (Shown ℕ) → List (ℕ × StobjList ℕ) → ℕ → Outcome ℕ
gives values stobjs calls = Gives values (state stobjs calls calls)

abbrev pub stops : Stop ℕ → List (ℕ × StobjList ℕ) → ℕ → Outcome ℕ
stops stop stobjs calls = Stops stop (origin None (calls + 1)) (state stobjs calls calls)
