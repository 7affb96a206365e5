-- What is left to print, the next at the end.
use Rattle.std.specs.Prelude.{◌≡◌, ℕ, ◌+◌, ◌<◌, length, List, [], ◌∷◌, ◌++◌, true, false}
use Rattle.model_objects.specs.Object.{weight}
use Rattle.model_symbols.specs.Symbols.{Table}
use Rattle.acl_base.specs.declared.Word.{Word}
use Rattle.acl_heap.specs.Objects.{Objects, object_of}
use Rattle.acl_heap.specs.declared.Seen.{Seen}
use Rattle.acl_heap.specs.declared.Seen.TheVariants as seen
use Rattle.acl_forms.specs.Forms.{IsWhole}
use Rattle.acl_print.specs.Views.{spelled_at}
use Rattle.acl_print.specs.declared.Task.{Task}
use Rattle.acl_print.specs.declared.Task.TheVariants.{Form, Tail}

abbrev pub task_text : Table → ℕ → Objects → Task → List ℕ
task_text t current h (Form w) = spelled_at t current h w false
task_text t current h (Tail w) = spelled_at t current h w true

abbrev pub tasks_text : Table → ℕ → Objects → List Task → List ℕ
tasks_text t current h [] = []
tasks_text t current h (k ∷ ks) = tasks_text t current h ks ++ task_text t current h k

abbrev pub task_word : Task → Word
task_word (Form w) = w
task_word (Tail w) = w

-- the words of the tasks lie in the heap, and their symbols are known
abbrev pub AreReady : Table → Objects → List Task → Type 0
AreReady t h [] = Unit {0}
AreReady t h (k ∷ ks) = IsWhole t h (task_word k) × AreReady t h ks

abbrev pub task_work : Objects → Task → ℕ
task_work h k = weight (object_of h (task_word k))

abbrev pub tasks_work : Objects → List Task → ℕ
tasks_work h [] = 0
tasks_work h (k ∷ ks) = task_work h k + tasks_work h ks

-- one task is done: what was written and is left to write is the same, and less is left
pub record Steps (t : Table) (current : ℕ) (h : Objects) (out out' : List ℕ) (k : Task) (ks ks' : List Task) : Type 0 where
  pub same : out' ++ tasks_text t current h ks' ≡ out ++ (task_text t current h k ++ tasks_text t current h ks)
  pub ready : AreReady t h ks'
  pub less : tasks_work h ks' < task_work h k + tasks_work h ks

-- an atom that is seen has a known symbol, if it is one
abbrev pub IsSeenKnown : Table → Seen → Type 0
IsSeenKnown t (seen.Integer n) = Unit {0}
IsSeenKnown t (seen.Symbol s) = s.0 < length t.symbols
IsSeenKnown t (seen.Text bytes) = Unit {0}
IsSeenKnown t (seen.Pair a d) = Unit {0}
