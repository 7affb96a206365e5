-- Functions, one after another.
use Rattle.std.specs.Prelude.{◌≡◌, ℕ, ◌+◌, List, [], ◌∷◌, ◌++◌, length, map, Some, None, refl}
use Rattle.std.proofs.Common.{ap, sym, ◌∙◌, arith}
use Rattle.std.proofs.lemmas.List.{append-nil, append_assoc, map-append}
use Rattle.model_terms.specs.Worlds as worlds
use Rattle.model_stobjs.specs.Entries as entries
use Rattle.model_stobjs.specs.Entries.{named_tasks, function_of, field_tasks, field_functions, generated_functions, recognizer_task, creator_task}
use Rattle.acl_base.specs.declared.SymId.{SymId}
use Rattle.acl_heap.specs.Objects.{Objects}
use Rattle.acl_terms.specs.declared.stobj.FieldDescriptor.{FieldDescriptor}
use Rattle.acl_terms.specs.declared.stobj.Descriptor.{Descriptor}
use Rattle.acl_terms.specs.declared.definition.GeneratedFunction.{GeneratedFunction}
use Rattle.acl_terms.specs.Definitions.{seen_shape, seen_field, seen_descriptor, seen_generated}
use Rattle.acl_terms.specs.Forms.{numbers}
use Rattle.acl_generated.specs.declared.tasks.Task.{Task}
use Rattle.acl_generated.specs.Tasks.{seen_task}

abbrev seen_all : List GeneratedFunction → List worlds.GeneratedFunction
seen_all fs = map seen_generated fs

pushed_seen : (fs more : List GeneratedFunction) (f : GeneratedFunction) (rest : List worlds.GeneratedFunction) → more ≡ fs ++ f ∷ [] → seen_all more ++ rest ≡ seen_all fs ++ seen_generated f ∷ rest
pushed_seen fs more f rest e =
    ap (λ gs. seen_all gs ++ rest) e ∙ (ap (λ gs. gs ++ rest) (map-append seen_generated fs (f ∷ [])) ∙ append_assoc (seen_all fs) (seen_generated f ∷ []) rest)

-- ---- the functions of a field

module _ (x y i : ℕ) (fs : List GeneratedFunction) (goal : List worlds.GeneratedFunction) (names : List SymId) (tasks : List Task)
    (all : seen_all fs ++ named_tasks x i (numbers names) (map (seen_task x y) tasks) ≡ goal) where
  pub named_more : (more : List GeneratedFunction) (f : GeneratedFunction) (n : SymId) (others : List SymId) (t : Task) (later : List Task) → names ≡ n ∷ others → tasks ≡ t ∷ later
      → seen_generated f ≡ function_of x (Some i) n.0 (seen_task x y t) → more ≡ fs ++ f ∷ [] → seen_all more ++ named_tasks x i (numbers others) (map (seen_task x y) later) ≡ goal
  named_more more f n others t later a b is pushed =
      let rest : List worlds.GeneratedFunction = named_tasks x i (numbers others) (map (seen_task x y) later) in
      let split : named_tasks x i (numbers names) (map (seen_task x y) tasks) ≡ named_tasks x i (numbers (n ∷ others)) (map (seen_task x y) (t ∷ later)) =
      ap (λ ns. named_tasks x i (numbers ns) (map (seen_task x y) tasks)) a ∙ ap (λ ts. named_tasks x i (numbers (n ∷ others)) (map (seen_task x y) ts)) b in
      pushed_seen fs more f rest pushed ∙ (ap (λ g. seen_all fs ++ g ∷ rest) is ∙ (ap (λ gs. seen_all fs ++ gs) (sym split) ∙ all))

  pub named_no_name : names ≡ [] → seen_all fs ≡ goal
  named_no_name e = sym (append-nil (seen_all fs)) ∙ (ap (λ ns. seen_all fs ++ named_tasks x i (numbers ns) (map (seen_task x y) tasks)) (sym e) ∙ all)

  no_task : (ns : List ℕ) → named_tasks x i ns [] ≡ []
  no_task [] = refl
  no_task (n ∷ ns) = refl

  no_tasks : (ts : List Task) → length ts ≡ 0 → ts ≡ []
  no_tasks [] e = refl
  no_tasks (t ∷ ts) e = absurd (omega (arith, e))

  pub named_no_task : length tasks ≡ 0 → seen_all fs ≡ goal
  named_no_task e =
      sym (append-nil (seen_all fs))
      ∙ (ap (λ gs. seen_all fs ++ gs) (sym (no_task (numbers names))) ∙ (ap (λ ts. seen_all fs ++ named_tasks x i (numbers names) (map (seen_task x y) ts)) (sym (no_tasks tasks e)) ∙ all))

-- ---- the functions of fields

module _ (h : Objects) (x i : ℕ) (fs : List GeneratedFunction) (goal : List worlds.GeneratedFunction) (rest : List FieldDescriptor)
    (all : seen_all fs ++ field_functions x i (map (seen_field h) rest) ≡ goal) where
  pub fields_more : (more : List GeneratedFunction) (d : FieldDescriptor) (others : List FieldDescriptor) (j : ℕ) → rest ≡ d ∷ others
      → seen_all more ≡ seen_all fs ++ named_tasks x i (numbers d.made) (field_tasks x (seen_shape h d.shape)) → j ≡ i + 1 → seen_all more ++ field_functions x j (map (seen_field h) others) ≡ goal
  fields_more more d others j split made next =
      let own : List worlds.GeneratedFunction = named_tasks x i (numbers d.made) (field_tasks x (seen_shape h d.shape)) in
      ap (λ gs. gs ++ field_functions x j (map (seen_field h) others)) made
      ∙ (append_assoc (seen_all fs) own (field_functions x j (map (seen_field h) others))
      ∙ (ap (λ k. seen_all fs ++ (own ++ field_functions x k (map (seen_field h) others))) next ∙ (ap (λ ds. seen_all fs ++ field_functions x i (map (seen_field h) ds)) (sym split) ∙ all)))

  pub fields_end : rest ≡ [] → seen_all fs ≡ goal
  fields_end e = sym (append-nil (seen_all fs)) ∙ (ap (λ ds. seen_all fs ++ field_functions x i (map (seen_field h) ds)) (sym e) ∙ all)

-- ---- all

pub all_functions : (h : Objects) (d : Descriptor) (none one two all : List GeneratedFunction) (r c : GeneratedFunction) → none ≡ [] → one ≡ none ++ r ∷ [] → two ≡ one ++ c ∷ []
    → seen_generated r ≡ function_of d.name.0 None d.recognizer.0 (recognizer_task d.name.0) → seen_generated c ≡ function_of d.name.0 None d.creator.0 (creator_task d.name.0)
    → seen_all all ≡ seen_all two ++ field_functions d.name.0 0 (map (seen_field h) d.fields) → seen_all all ≡ generated_functions (seen_descriptor h d)
all_functions h d none one two all r c e f g is_r is_c made =
    let rest : List worlds.GeneratedFunction = field_functions d.name.0 0 (map (seen_field h) d.fields) in
    made
    ∙ (pushed_seen one two c rest g
    ∙ (pushed_seen none one r (seen_generated c ∷ rest) f
    ∙ (ap (λ gs. seen_all gs ++ seen_generated r ∷ (seen_generated c ∷ rest)) e
    ∙ (ap (λ y. y ∷ (seen_generated c ∷ rest)) is_r ∙ ap (λ y. function_of d.name.0 None d.recognizer.0 (recognizer_task d.name.0) ∷ (y ∷ rest)) is_c))))
