-- Calls of primitives.
use Rattle.std.specs.Prelude.{◌≡◌, ℕ, ◌+◌, ◌<◌, ◌==◌, List, [], ◌∷◌, ◌++◌, length, drop, map, Bool, true, false, Option, Some, None, unwrap_or, if◌then◌else◌, refl}
use Rattle.std.proofs.Common.{sym, ap, ◌∙◌, subst, get_or}
use Rattle.std.specs.Option.{option_map, option_and_then}
use Rattle.std.proofs.lemmas.List.{drop_more, map_push}
use Rattle.acl_commands.specs.declared.Actual as code
use Rattle.acl_commands.specs.Views.{actual_view, actual_views}
use Rattle.acl_commands.proofs.PartLemmas.{behind, behind_one}
use Rattle.model_objects.specs.Object.{Object, Integer, Symbol, Text, Pair}
use Rattle.model_objects.specs.Named.{Knows}
use Rattle.model_symbols.specs.Symbols.{QualifiedName, Table, symbol_at, form_of}
use Rattle.model_symbols.specs.Tables.{IsTable}
use Rattle.model_symbols.proofs.NameLemmas.{symbol-at, number-known}
use Rattle.model_text.specs.Token.{Form}
use Rattle.model_text.specs.Text.{text}
use Rattle.model_prims.specs.Applied.{Applied, Gives, Stops, applied}
use Rattle.model_prims.specs.Rows.{prim_of, arity_of, row_called}
use Rattle.model_output_so_far.specs.Commands.{Actual}
use Rattle.model_output_so_far.specs.Sessions as model
use Rattle.model_output_so_far.specs.Lines.{refused, NotYet}
use Rattle.model_output_so_far.specs.Running.{object_call}
use Rattle.model_output_so_far.specs.Calls.{numbered, given, applied_row, on_constants, row_call, primitive_call, constant, with_constant, constants}
use Rattle.acl_base.specs.declared.Word.{Word}
use Rattle.acl_heap.specs.Objects.{Objects, object_of}
use Rattle.acl_forms.specs.Forms.{AreWhole, form_at, forms_at}
use Rattle.acl_numbers.specs.Answers.{IsStop}
use Rattle.acl_numbers.specs.declared.stops.PrimStop.{PrimStop}
use Rattle.acl_numbers.specs.declared.stops.PrimStop.TheVariants as prim_stop
use Rattle.acl_prims.specs.Made.{objects_of}
use Rattle.acl_answers.specs.declared.Answer.{Answer}
use Rattle.acl_answers.specs.Views.{session_in, UsesOf}
use Rattle.acl_answers.specs.Answers.{Answers}
use Rattle.acl_answers.specs.Stops.{stop_line}
use Rattle.acl_answers.proofs.EventLemmas.{known_is}

-- ---- numbers of symbols

module _ (t : Table) (i : IsTable t) where
  numbered_object : (o : Object ℕ) → Knows (length t.symbols) o → numbered t.symbols (form_of t.symbols o) ≡ o
  numbered_object (Integer n) k = refl
  numbered_object (Symbol s) k = ap (λ (n : Option ℕ). let o : Object ℕ = Symbol (unwrap_or n 0) in o) (number-known t.symbols (symbol_at t.symbols s) s i.distinct (symbol-at t.symbols s k))
  numbered_object (Text bytes) k = refl
  numbered_object (Pair a d) k = rw (numbered_object a k.0, numbered_object d k.1) refl

  pub numbered_back : (h : Objects) (ws : List Word) → AreWhole t h ws → map (numbered t.symbols) (forms_at t h ws) ≡ objects_of h ws
  numbered_back h [] a = refl
  numbered_back h (w ∷ ws) a = rw (numbered_object (object_of h w) a.0.known, numbered_back h ws a.1) refl

-- ---- values and stops

-- a call that gave a value
pub given_value : (old new : Table) (current : ℕ) (f : QualifiedName) (args : List Form) (a : Applied) (o : Object ℕ) (answer : Answer) → a ≡ Gives o new.symbols → new.packages ≡ old.packages
    → answer.line.items ≡ text new.packages current (form_of new.symbols o) → answer.calls ≡ 1 → answer.is_error ≡ false → Answers (given (session_in old current) f args a) (session_in new current) answer
given_value old new current f args a o answer e p l c b =
    subst (λ (x : Applied). Answers (given (session_in old current) f args x) (session_in new current) answer) (sym e)
    (record { says = record { line = l ∙ ap (λ ps. text ps current (form_of new.symbols o)) p; calls = c; is_error = b }; session = sym (known_is old new current p) })

-- a call that stopped
pub given_stop : (t : Table) (current : ℕ) (f : QualifiedName) (args : List Form) (a : Applied) (stop : PrimStop) (answer : Answer) → IsStop a stop → (stop ≡ prim_stop.Memory → false ≡ true)
    → answer.line.items ≡ stop_line (session_in t current) f args stop → answer.calls ≡ 1 → answer.is_error ≡ true → Answers (given (session_in t current) f args a) (session_in t current) answer
given_stop t current f args a prim_stop.Guard answer e m l c b =
    subst (λ (x : Applied). Answers (given (session_in t current) f args x) (session_in t current) answer) (sym e) (record { says = record { line = l; calls = c; is_error = b }; session = refl })
given_stop t current f args a prim_stop.Range answer e m l c b =
    subst (λ (x : Applied). Answers (given (session_in t current) f args x) (session_in t current) answer) (sym e) (record { says = record { line = l; calls = c; is_error = b }; session = refl })
given_stop t current f args a prim_stop.TooLarge answer e m l c b =
    subst (λ (x : Applied). Answers (given (session_in t current) f args x) (session_in t current) answer) (sym e) (record { says = record { line = l; calls = c; is_error = b }; session = refl })
given_stop t current f args a prim_stop.SymbolLimit answer e m l c b =
    subst (λ (x : Applied). Answers (given (session_in t current) f args x) (session_in t current) answer) (sym e) (record { says = record { line = l; calls = c; is_error = b }; session = refl })
given_stop t current f args a prim_stop.Memory answer e m l c b = absurd (no_bool (m refl)) where
  no_bool : false ≡ true → ⊥
  no_bool e = cc

-- ---- a session with an object

-- what is answered beside an object
record Beside (s : model.Session) (o : Option model.Stobj) (plain whole : model.Answered) : Type 0 where
  line : whole.line ≡ plain.line
  calls : whole.calls ≡ plain.calls
  is_error : whole.is_error ≡ plain.is_error
  session : whole.session ≡ record (plain.session) { object = o }

module _ (t : Table) (current : ℕ) (o : Option model.Stobj) (f : QualifiedName) where
  abbrev without : model.Session
  without = record { table = t; current = current; object = None }

  abbrev within : model.Session
  within = record { table = t; current = current; object = o }

  beside_given : (args : List Form) (a : Applied) → Beside without o (given without f args a) (given within f args a)
  beside_given args (Gives x symbols) = record { line = refl; calls = refl; is_error = refl; session = refl }
  beside_given args (Stops stop) = record { line = refl; calls = refl; is_error = refl; session = refl }

  beside_if : (row : ℕ) (args : List Form) (b : Bool) → Beside without o (if b then applied_row without f row args else refused without NotYet) (if b then applied_row within f row args else refused within NotYet)
  beside_if row args true = beside_given args (applied t (prim_of row) (map (numbered t.symbols) args))
  beside_if row args false = record { line = refl; calls = refl; is_error = refl; session = refl }

  beside_constants : (row : ℕ) (args : Option (List Form)) → Beside without o (on_constants without f row args) (on_constants within f row args)
  beside_constants row None = record { line = refl; calls = refl; is_error = refl; session = refl }
  beside_constants row (Some args) = beside_if row args (length args == arity_of row)

  beside_row : (actuals : List Actual) (row : Option ℕ) → Beside without o (row_call without f actuals row) (row_call within f actuals row)
  beside_row actuals None = record { line = refl; calls = refl; is_error = refl; session = refl }
  beside_row actuals (Some row) = beside_constants row (constants actuals)

  beside_primitive : (actuals : List Actual) → Beside without o (primitive_call without f actuals) (primitive_call within f actuals)
  beside_primitive actuals = beside_row actuals (row_called f)

pub other_call : (s : model.Session) (o : Option model.Stobj) (f : QualifiedName) (actuals : List Actual) → UsesOf o f None → object_call s o f actuals ≡ primitive_call s f actuals
other_call s None f actuals u = refl
other_call s (Some o) f actuals u = rw (u.0, u.1) refl

-- what is answered in a session with an object, by what is answered without
pub call_beside : (old : model.Session) (new : Table) (after : model.Session) (f : QualifiedName) (actuals : List Actual) (answer : Answer) → UsesOf old.object f None
    → after ≡ record { table = new; current = old.current; object = old.object } → Answers (primitive_call (session_in old.table old.current) f actuals) (session_in new old.current) answer
    → Answers (object_call old old.object f actuals) after answer
call_beside old new after f actuals answer u e a =
    let b = beside_primitive old.table old.current old.object f actuals in
    subst (λ (x : model.Answered). Answers x after answer) (sym (other_call old old.object f actuals u)) (record {
      says = record { line = a.says.line ∙ sym b.line; calls = a.says.calls ∙ sym b.calls; is_error = a.says.is_error ∙ sym b.is_error };
      session = e ∙ (ap (λ (s : model.Session). record s { object = old.object }) a.session ∙ sym b.session);
    })

-- ---- constants

pub constants_more : (t : Table) (h : Objects) (actuals : List code.Actual) (i : ℕ) (d : code.Actual) (w : Word) (words more : List Word) (all : Option (List Form)) → i < length actuals
    → Some (form_at t h w) ≡ constant (actual_view t h (get_or actuals i d)) → more ≡ words ++ w ∷ [] → behind (forms_at t h words) (constants (actual_views t h (drop i actuals))) ≡ all
    → behind (forms_at t h more) (constants (actual_views t h (drop (i + 1) actuals))) ≡ all
constants_more t h actuals i d w words more all l e m s =
    let rest = constants (actual_views t h (drop (i + 1) actuals)) in
    let here : constants (actual_views t h (drop i actuals)) ≡ option_map (λ (fs : List Form). form_at t h w ∷ fs) rest =
    ap (λ (left : List code.Actual). constants (actual_views t h left)) (drop_more actuals i d l) ∙ ap (option_and_then (with_constant rest)) (sym e) in
    ap (λ (fs : List Form). behind fs rest) (ap (forms_at t h) m ∙ map_push (form_at t h) words w)
    ∙ (behind_one (forms_at t h words) (form_at t h w) rest ∙ (ap (behind (forms_at t h words)) (sym here) ∙ s))
