-- A book, as far as its commands were run.
use Rattle.std.specs.Prelude.{◌≡◌, ◌≢◌, ℕ, suc, ◌-◌, ◌≤◌, ◌==◌, List, [], ◌∷◌, length, map, drop, Bool, true, false, Option, Some, None, Ok, Err, if◌then◌else◌, refl}
use Rattle.std.proofs.Common.{sym, ap, ◌∙◌, arith}
use Rattle.std.specs.Str.{bytes_eq}
use Rattle.model_objects.specs.Object.{Integer, Symbol, Text, Pair}
use Rattle.model_symbols.specs.Symbols.{QualifiedName, Table, package_number}
use Rattle.model_symbols.specs.Opening.{hidden}
use Rattle.model_symbols.specs.Growth.{Extends}
use Rattle.model_text.specs.Token.{Form}
use Rattle.model_text.specs.Next.{Next, Stands, Nothing, End, Faulty, next_at}
use Rattle.model_text.specs.declared.TextCause.{TextCause}
use Rattle.model_text.specs.declared.TextCause.TheVariants.{Memory}
use Rattle.model_text.specs.declared.TextFault.{TextFault}
use Rattle.model_prims.specs.Applied.{Applied, Gives, Stops, applied}
use Rattle.model_prims.specs.Rows.{prim_of, arity_of, row_called}
use Rattle.model_output_so_far.specs.Commands.{Command, Define, Enter, Misshapen, Call, Other, NewField, Actual, Literal, Quoted, Variable, Nested, command_of}
use Rattle.model_output_so_far.specs.Sessions as model
use Rattle.model_output_so_far.specs.Lines.{refused, NotYet, SymbolLimit, UnknownPackage}
use Rattle.model_output_so_far.specs.Objects.{with_literal, with_quoted, with_actual, is_object, was_read, read_call, update_call, read_field, updated_field}
use Rattle.model_output_so_far.specs.Calls.{numbered, given, applied_row, on_constants, row_call, constants}
use Rattle.model_output_so_far.specs.Events.{names_of, new_names, first_bad, first_in_use, with_names, if_free, if_good, define, enter_found}
use Rattle.model_output_so_far.specs.Running.{field_call, object_call, run}
use Rattle.model_output_so_far.specs.Output.{Output, Totals, no_totals, before, line, counted, answers, at_next, ended, faulty, cause_name}
use Rattle.acl_base.specs.declared.Word.{Word}
use Rattle.acl_heap.specs.Objects.{Objects}
use Rattle.acl_forms.specs.Forms.{form_at}
use Rattle.acl_read.specs.declared.Reader.{Reader}
use Rattle.acl_read.specs.Reading.{unread, offset_of, has_ended, next_of, Takes}
use Rattle.acl_answers.specs.declared.Answer.{Answer}
use Rattle.acl_answers.specs.declared.Session.{Session}
use Rattle.acl_answers.specs.Views.{session_view}
use Rattle.acl_answers.specs.Whole.{IsSession}
use Rattle.acl_answers.specs.Answers.{Answers}
use Rattle.acl_answers.proofs.SessionLemmas.{session_later}
use Rattle.acl_session.specs.Runs.{counted_by}

-- ---- what is left of the output

at_stands : (most : ℕ) (s : model.Session) (t : Totals) (offset : ℕ) (bytes : List ℕ) (next : Next) (form : Form) (at : ℕ) (symbols : List QualifiedName) → next ≡ Stands form at symbols
    → at_next s t next (λ s' t' n. answers most s' t' n (drop (n - offset) bytes)) ≡ (let a = run (model.knowing s symbols) (command_of form) in before (line a.line) (answers most a.session (counted t a) at (drop (at - offset) bytes)))
at_stands most s t offset bytes next form at symbols e = ap (λ (n : Next). at_next s t n (λ s' t' n. answers most s' t' n (drop (n - offset) bytes))) e

said : (a : model.Answered) (s : model.Session) (t : Totals) (answer : Answer) (rest : model.Session → Totals → Output) → Answers a s answer
    → before (line a.line) (rest a.session (counted t a)) ≡ before (line answer.line.items) (rest s (counted_by t answer))
said a s t answer rest h = rw (h.says.line, h.session, h.says.calls, h.says.is_error) refl

-- a form stood first, and its command was run
pub left_form : (left most : ℕ) (s s1 s2 : model.Session) (t : Totals) (offset at : ℕ) (bytes rest : List ℕ) (form : Form) (symbols : List QualifiedName) (answer : Answer) → left ≡ suc most
    → next_at s.table.packages s.current s.table.symbols offset bytes true ≡ Stands form at symbols → s1 ≡ model.knowing s symbols → Answers (run s1 (command_of form)) s2 answer → rest ≡ drop (at - offset) bytes
    → answers left s t offset bytes ≡ before (line answer.line.items) (answers most s2 (counted_by t answer) at rest)
left_form left most s s1 s2 t offset at bytes rest form symbols answer f e k h r =
    ap (λ (n : ℕ). answers n s t offset bytes) f
    ∙ (at_stands most s t offset bytes (next_at s.table.packages s.current s.table.symbols offset bytes true) form at symbols e
    ∙ (ap (λ (u : model.Session). let a = run u (command_of form) in before (line a.line) (answers most a.session (counted t a) at (drop (at - offset) bytes))) (sym k)
    ∙ (said (run s1 (command_of form)) s2 t answer (λ s' t'. answers most s' t' at (drop (at - offset) bytes)) h
    ∙ ap (λ (l : List ℕ). before (line answer.line.items) (answers most s2 (counted_by t answer) at l)) (sym r))))

pub left_end : (left most : ℕ) (s : model.Session) (t : Totals) (offset : ℕ) (bytes : List ℕ) → left ≡ suc most → next_at s.table.packages s.current s.table.symbols offset bytes true ≡ End → answers left s t offset bytes ≡ ended t
left_end left most s t offset bytes f e =
    ap (λ (n : ℕ). answers n s t offset bytes) f ∙ ap (λ (n : Next). at_next s t n (λ s' t' n. answers most s' t' n (drop (n - offset) bytes))) e

pub left_fault : (left most : ℕ) (s : model.Session) (t : Totals) (offset at : ℕ) (bytes : List ℕ) (c : TextCause) → left ≡ suc most → next_at s.table.packages s.current s.table.symbols offset bytes true ≡ Faulty c at
    → answers left s t offset bytes ≡ faulty t (cause_name c) at
left_fault left most s t offset at bytes c f e =
    ap (λ (n : ℕ). answers n s t offset bytes) f ∙ ap (λ (n : Next). at_next s t n (λ s' t' n. answers most s' t' n (drop (n - offset) bytes))) e

pub left_nothing : (left : ℕ) (s : model.Session) (t : Totals) (offset : ℕ) (bytes : List ℕ) → left ≡ 0 → answers left s t offset bytes ≡ ended t
left_nothing left s t offset bytes f = ap (λ (n : ℕ). answers n s t offset bytes) f

-- ---- one turn

module _ (old new : Table) (h : Objects) (s : Session) (r r' : Reader) (t : Totals) (ended_now : has_ended r ≡ true) (packages : new.packages ≡ old.packages) where
  next_is : (n : Next) → next_of old.symbols new s.current r ≡ n → next_at old.packages s.current.0 old.symbols (offset_of r) (unread r) true ≡ n
  next_is n e =
      ap (λ ps. next_at ps s.current.0 old.symbols (offset_of r) (unread r) true) (sym packages)
      ∙ (ap (λ b. next_at new.packages s.current.0 old.symbols (offset_of r) (unread r) b) (sym ended_now) ∙ e)

  -- a form stood first, and its command was run
  pub turn_form : (left most : ℕ) (w : Word) (s2 : model.Session) (answer : Answer) → left ≡ suc most → Extends old new → IsSession old s → Takes old.symbols new h s.current r r' (Ok (Some w))
      → Answers (run (session_view new s) (command_of (form_at new h w))) s2 answer
      → answers left (session_view old s) t (offset_of r) (unread r) ≡ before (line answer.line.items) (answers most s2 (counted_by t answer) (offset_of r') (unread r'))
  turn_form left most w s2 answer f g i k a =
      left_form left most (session_view old s) (session_view new s) s2 t (offset_of r) (offset_of r') (unread r) (unread r') (form_at new h w) new.symbols answer f
      (next_is (Stands (form_at new h w) (offset_of r') new.symbols) k.0) (session_later old new s g packages i) a k.3

  -- the input has ended
  pub turn_end : (left most : ℕ) → left ≡ suc most → Takes old.symbols new h s.current r r' (Ok None) → answers left (session_view old s) t (offset_of r) (unread r) ≡ ended t
  turn_end left most f k = left_end left most (session_view old s) t (offset_of r) (unread r) f (next_is End (k.0 ∙ ap (λ b. if b then End else Nothing) ended_now))

  -- a text fault ends it
  pub turn_fault : (left most : ℕ) (e : TextFault) → left ≡ suc most → e.cause ≢ Memory → Takes old.symbols new h s.current r r' (Err e)
      → answers left (session_view old s) t (offset_of r) (unread r) ≡ faulty t (cause_name e.cause) e.offset
  turn_fault left most e f m k = left_fault left most (session_view old s) t (offset_of r) e.offset (unread r) e.cause f (next_is (Faulty e.cause e.offset) (k m))

-- ---- the first turn

pub left_first : (n m : ℕ) (s : model.Session) (t : Totals) (offset : ℕ) (bytes input : List ℕ) → m ≡ n → s ≡ model.first_session → t ≡ no_totals → offset ≡ 0 → bytes ≡ input
    → answers m s t offset bytes ≡ answers n model.first_session no_totals 0 input
left_first n m s t offset bytes input e f g h i = rw (e, f, g, h, i) refl

-- ---- calls

one : (s : model.Session) (o : model.Stobj) (k : ℕ) (v : Form) → (with_literal s o k v).calls ≤ 1
one s o k (Integer n) = omega arith
one s o k (Symbol t) = omega arith
one s o k (Text bytes) = omega arith
one s o k (Pair a d) = omega arith

quoted_one : (s : model.Session) (o : model.Stobj) (f : QualifiedName) (v : Form) → (with_quoted s o f v).calls ≤ 1
quoted_one s o f (Integer n) = omega arith
quoted_one s o f (Symbol t) = omega arith
quoted_one s o f (Text bytes) = omega arith
quoted_one s o f (Pair a d) = omega arith

actual_one : (s : model.Session) (o : model.Stobj) (f : QualifiedName) (k : ℕ) (a : Actual) → (with_actual s o f k a).calls ≤ 1
actual_one s o f k (Literal v) = one s o k v
actual_one s o f k (Quoted v) = quoted_one s o f v
actual_one s o f k (Variable t) = omega arith
actual_one s o f k Nested = omega arith

either : (b : Bool) (x y : model.Answered) → x.calls ≤ 1 → y.calls ≤ 1 → (if b then x else y).calls ≤ 1
either true x y p q = p
either false x y p q = q

read_one : (s : model.Session) (o : model.Stobj) (k : ℕ) (actuals : List Actual) → (read_call s o k actuals).calls ≤ 1
read_one s o k [] = omega arith
read_one s o k (a ∷ []) = either (is_object o a) (was_read s o k) (refused s NotYet) (omega arith) (omega arith)
read_one s o k (a ∷ b ∷ rest) = omega arith

update_one : (s : model.Session) (o : model.Stobj) (f : QualifiedName) (k : ℕ) (actuals : List Actual) → (update_call s o f k actuals).calls ≤ 1
update_one s o f k [] = omega arith
update_one s o f k (a ∷ []) = omega arith
update_one s o f k (a ∷ b ∷ []) = either (is_object o b) (with_actual s o f k a) (refused s NotYet) (actual_one s o f k a) (omega arith)
update_one s o f k (a ∷ b ∷ c ∷ rest) = omega arith

given_one : (s : model.Session) (f : QualifiedName) (args : List Form) (a : Applied) → (given s f args a).calls ≤ 1
given_one s f args (Gives o symbols) = omega arith
given_one s f args (Stops stop) = omega arith

constants_one : (s : model.Session) (f : QualifiedName) (row : ℕ) (args : Option (List Form)) → (on_constants s f row args).calls ≤ 1
constants_one s f row None = omega arith
constants_one s f row (Some args) =
    either (length args == arity_of row) (applied_row s f row args) (refused s NotYet) (given_one s f args (applied s.table (prim_of row) (map (numbered s.table.symbols) args))) (omega arith)

row_one : (s : model.Session) (f : QualifiedName) (actuals : List Actual) (row : Option ℕ) → (row_call s f actuals row).calls ≤ 1
row_one s f actuals None = omega arith
row_one s f actuals (Some row) = constants_one s f row (constants actuals)

field_one : (s : model.Session) (o : model.Stobj) (f : QualifiedName) (actuals : List Actual) (read updated : Option ℕ) → (field_call s o f actuals read updated).calls ≤ 1
field_one s o f actuals (Some k) updated = read_one s o k actuals
field_one s o f actuals None (Some k) = update_one s o f k actuals
field_one s o f actuals None None = row_one s f actuals (row_called f)

object_one : (s : model.Session) (o : Option model.Stobj) (f : QualifiedName) (actuals : List Actual) → (object_call s o f actuals).calls ≤ 1
object_one s None f actuals = row_one s f actuals (row_called f)
object_one s (Some o) f actuals = field_one s o f actuals (read_field o f) (updated_field o f)

free_one : (s : model.Session) (name : QualifiedName) (fields : List NewField) (taken : Option QualifiedName) → (if_free s name fields taken).calls ≤ 1
free_one s name fields None = omega arith
free_one s name fields (Some taken) = omega arith

good_one : (s : model.Session) (name : QualifiedName) (fields : List NewField) (bad : Option QualifiedName) → (if_good s name fields bad).calls ≤ 1
good_one s name fields (Some bad) = omega arith
good_one s name fields None =
    let names = new_names s.table.packages name (names_of fields) in
    let room = with_names s.table.symbols names in
    either room.is_full (refused (model.knowing s room.symbols) SymbolLimit) (if_free (model.knowing s room.symbols) name fields (first_in_use names)) (omega arith) (free_one (model.knowing s room.symbols) name fields (first_in_use names))

define_one : (s : model.Session) (o : Option model.Stobj) (name : QualifiedName) (fields : List NewField) → (define s o name fields).calls ≤ 1
define_one s (Some o) name fields = omega arith
define_one s None name fields = good_one s name fields (first_bad (name ∷ names_of fields))

found_one : (s : model.Session) (name : List ℕ) (n : Option ℕ) → (enter_found s name n).calls ≤ 1
found_one s name None = omega arith
found_one s name (Some n) = omega arith

-- a command counts one call at the most
pub calls_most : (s : model.Session) (c : Command) → (run s c).calls ≤ 1
unfolding run
calls_most s (Define name fields) = define_one s s.object name fields
calls_most s (Enter name) = either (bytes_eq name hidden) (refused s (UnknownPackage name)) (enter_found s name (package_number s.table.packages name)) (omega arith) (found_one s name (package_number s.table.packages name))
calls_most s (Misshapen head) = omega arith
calls_most s (Call f actuals) = object_one s s.object f actuals
calls_most s Other = omega arith
