-- A list of tasks, the next at its end.
use Rattle.std.specs.Prelude.{◌≡◌, ℕ, ◌+◌, ◌<◌, List, [], ◌∷◌, ◌++◌, length, Bool, true, false}
use Rattle.std.proofs.Common.{sym, ap, ◌∙◌, subst, arith}
use Rattle.std.proofs.lemmas.List.{append_assoc, append-nil}
use Rattle.model_objects.specs.Object.{Object, Pair, weight}
use Rattle.model_objects.specs.Named.{Knows}
use Rattle.model_symbols.specs.Symbols.{Table, form_of}
use Rattle.model_text.specs.Text.{spelled, pair_start}
use Rattle.acl_base.specs.declared.Word.{Word}
use Rattle.acl_heap.specs.Objects.{Objects, object_of, Lies}
use Rattle.acl_forms.specs.Forms.{IsWhole}
use Rattle.acl_print.specs.Views.{packages_in, spelled_at}
use Rattle.acl_print.specs.Tasks.{AreReady, Steps, task_text, task_word, task_work, tasks_text, tasks_work}
use Rattle.acl_print.specs.declared.Task.{Task}
use Rattle.acl_print.specs.declared.Task.TheVariants.{Form, Tail}

module _ (t : Table) (p : ℕ) (h : Objects) where
  tasks_text-push : (ks : List Task) (k : Task) → tasks_text t p h (ks ++ k ∷ []) ≡ task_text t p h k ++ tasks_text t p h ks
  tasks_text-push [] k = sym (append-nil (task_text t p h k))
  tasks_text-push (j ∷ ks) k = ap (λ (l : List ℕ). l ++ task_text t p h j) (tasks_text-push ks k) ∙ append_assoc (task_text t p h k) (tasks_text t p h ks) (task_text t p h j)

  tasks_work-push : (ks : List Task) (k : Task) → tasks_work h (ks ++ k ∷ []) ≡ task_work h k + tasks_work h ks
  tasks_work-push [] k = omega arith
  tasks_work-push (j ∷ ks) k = omega (arith, tasks_work-push ks k)

  AreReady-push : (ks : List Task) (k : Task) → AreReady t h ks → IsWhole t h (task_word k) → AreReady t h (ks ++ k ∷ [])
  AreReady-push [] k r w = (w, tt)
  AreReady-push (j ∷ ks) k r w = (r.0, AreReady-push ks k r.1 w)

  AreReady-pop : (ks : List Task) (k : Task) → AreReady t h (ks ++ k ∷ []) → AreReady t h ks × IsWhole t h (task_word k)
  AreReady-pop [] k r = (tt, r.0)
  AreReady-pop (j ∷ ks) k r = let q = AreReady-pop ks k r.1 in ((r.0, q.0), q.1)

  -- what is left after the task at the end is taken
  pub popped : (all ks : List Task) (k : Task) → all ≡ ks ++ k ∷ [] → AreReady t h all → AreReady t h ks × IsWhole t h (task_word k)
  popped all ks k e r = AreReady-pop ks k (subst (AreReady t h) e r)

  -- and done
  pub stepped_text : (out out' : List ℕ) (all ks ks' : List Task) (k : Task) → all ≡ ks ++ k ∷ [] → Steps t p h out out' k ks ks' → out' ++ tasks_text t p h ks' ≡ out ++ tasks_text t p h all
  stepped_text out out' all ks ks' k e s = s.same ∙ ap (λ (l : List ℕ). out ++ l) (sym (ap (tasks_text t p h) e ∙ tasks_text-push ks k))

  pub stepped_work : (out out' : List ℕ) (all ks ks' : List Task) (k : Task) → all ≡ ks ++ k ∷ [] → Steps t p h out out' k ks ks' → tasks_work h ks' < tasks_work h all
  stepped_work out out' all ks ks' k e s = omega (arith, ap (tasks_work h) e, tasks_work-push ks k, s.less)

  -- a pair is a byte, its first part and then the rest
  pub pair_steps : (out : List ℕ) (rest : Bool) (k : Task) (ks : List Task) (a d : Word) → task_text t p h k ≡ spelled_at t p h (task_word k) rest
      → object_of h (task_word k) ≡ Pair (object_of h a) (object_of h d) → Lies h a → Lies h d → IsWhole t h (task_word k) → AreReady t h ks
      → Steps t p h out (out ++ pair_start rest ∷ []) k ks ((ks ++ Tail d ∷ []) ++ Form a ∷ [])
  pair_steps out rest k ks a d i e la ld w r =
      let P : Object ℕ → Type 0 = λ o. Knows (length t.symbols) o in
      let known : Knows (length t.symbols) (object_of h a) × Knows (length t.symbols) (object_of h d) = subst P e w.known in
      let b = pair_start rest in
      let x = spelled_at t p h a false in
      let y = spelled_at t p h d true in
      let z = tasks_text t p h ks in
      let s : task_text t p h k ≡ b ∷ (x ++ y) = i ∙ ap (λ (o : Object ℕ). spelled (packages_in t p) (form_of t.symbols o) rest) e in
      record {
        same =
            ap (λ (l : List ℕ). (out ++ b ∷ []) ++ l) (tasks_text-push (ks ++ Tail d ∷ []) (Form a) ∙ ap (λ (l : List ℕ). x ++ l) (tasks_text-push ks (Tail d)))
            ∙ (append_assoc out (b ∷ []) (x ++ (y ++ z))
            ∙ ap (λ (l : List ℕ). out ++ l) (ap (λ (l : List ℕ). b ∷ l) (sym (append_assoc x y z)) ∙ ap (λ (l : List ℕ). l ++ z) (sym s)));
        ready = AreReady-push (ks ++ Tail d ∷ []) (Form a) (AreReady-push ks (Tail d) r (record { lies = ld; known = known.1 })) (record { lies = la; known = known.0 });
        less = omega (arith, tasks_work-push (ks ++ Tail d ∷ []) (Form a), tasks_work-push ks (Tail d), ap weight e);
      }
