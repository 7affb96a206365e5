-- What functions do, by their roles.
use Rattle.std.specs.Prelude.{◌≡◌, ℕ, Bool, true, List, refl}
use Rattle.std.proofs.Common.{sym, ap, ◌∙◌}
use Rattle.acl_base.specs.declared.Word.{Word}
use Rattle.model_objects.specs.Object.{Object}
use Rattle.model_prims.specs.Kinds.{by_number, truth_of}
use Rattle.model_prims.specs.Applied.{argument}
use Rattle.model_lists.specs.Lists.{StobjList}
use Rattle.model_lists.specs.Layouts.{Layout, field_recognizes}
use Rattle.model_lists.specs.Effects.{Effect, reads, accessed, changed, measured, lengthened, hash_read, hash_bound, hash_looked_up, hash_put, hash_removed, hash_counted, hash_cleared}
use Rattle.model_terms.specs.Worlds as worlds
use Rattle.model_terms.specs.declared.role.Role.{Role}
use Rattle.model_terms.specs.declared.role.Role.TheVariants as role
use Rattle.model_eval.specs.GeneratedCalls.{effect}
use Rattle.acl_heap.specs.Objects.{Objects, object_of, Lies}
use Rattle.acl_lists.specs.declared.cell.Cell.{Cell}
use Rattle.acl_layouts.specs.Laid.{laid}
use Rattle.acl_list_calls.specs.declared.done.Done.{Done}
use Rattle.acl_list_calls.specs.declared.done.Done.TheVariants as done
use Rattle.acl_list_calls.specs.Results.{Does}
use Rattle.acl_list_calls.specs.Plain.{plain_layout}
use Rattle.acl_list_calls.proofs.PlainLemmas.{as_plain, accessed_elements, changed_elements, lengthened_elements, read_elements, bound_elements, both_elements, put_elements, removed_elements}

pub does_as : (h : Objects) (cs : List Cell) (e f : Effect ℕ) (d : Done) → e ≡ f → Does h cs e d → Does h cs f d
does_as h cs e f d i j = record { lies = j.lies; is = j.is ∙ i }

module _ (h : Objects) (cs : List Cell) (r : Role) (w : worlds.World) (n : ℕ) (s : worlds.Shape) (f : ℕ) (args : List (Object ℕ)) (l : StobjList ℕ) where
  pub recognizer_done : (v : Word) → r ≡ role.Recognizer → Lies h v → object_of h v ≡ truth_of by_number true → Does h cs (effect by_number r (laid w n s) f args l) (done.Reads v)
  unfolding effect
  recognizer_done v e i j = record { lies = i; is = ap (reads by_number) j ∙ ap (λ q. effect by_number q (laid w n s) f args l) (sym e) }

  pub creator_done : r ≡ role.Creator → Does h cs (effect by_number r (laid w n s) f args l) done.Refuses
  unfolding effect
  creator_done e = record { lies = tt; is = ap (λ q. effect by_number q (laid w n s) f args l) (sym e) }

  pub recognize_done : (d : Done) → r ≡ role.FieldRecognizer → Does h cs (effect by_number role.FieldRecognizer (laid w n s) f args l) d → Does h cs (effect by_number r (laid w n s) f args l) d
  recognize_done d e j = does_as h cs _ _ d (ap (λ q. effect by_number q (laid w n s) f args l) (sym e)) j

  pub field_recognized : (x v : Word) (g : Objects) (b : Bool) → object_of g x ≡ argument by_number args 0 → b ≡ field_recognizes by_number (laid w n s) (object_of g x) → Lies h v → object_of h v ≡ truth_of by_number b
      → Does h cs (effect by_number role.FieldRecognizer (laid w n s) f args l) (done.Reads v)
  unfolding effect
  field_recognized x v g b e i j k = record {
    lies = j;
    is = ap (reads by_number) (k ∙ ap (truth_of by_number) (i ∙ ap (field_recognizes by_number (laid w n s)) e));
  }

  pub access_done : (d : Done) → r ≡ role.Access → Does h cs (accessed by_number (plain_layout s) f args l) d → Does h cs (effect by_number r (laid w n s) f args l) d
  unfolding effect
  access_done d e j = does_as h cs _ _ d (as_plain (λ layout. accessed by_number layout f args l) (accessed_elements f args l) w n s ∙ ap (λ q. effect by_number q (laid w n s) f args l) (sym e)) j

  pub update_done : (d : Done) → r ≡ role.Update → Does h cs (changed by_number (plain_layout s) f args l) d → Does h cs (effect by_number r (laid w n s) f args l) d
  unfolding effect
  update_done d e j = does_as h cs _ _ d (as_plain (λ layout. changed by_number layout f args l) (changed_elements f args l) w n s ∙ ap (λ q. effect by_number q (laid w n s) f args l) (sym e)) j

  pub resize_done : (d : Done) → r ≡ role.Resize → Does h cs (lengthened by_number (plain_layout s) f args l) d → Does h cs (effect by_number r (laid w n s) f args l) d
  unfolding effect
  resize_done d e j = does_as h cs _ _ d (as_plain (λ layout. lengthened by_number layout f args l) (lengthened_elements f args l) w n s ∙ ap (λ q. effect by_number q (laid w n s) f args l) (sym e)) j

  pub get_done : (d : Done) → r ≡ role.HashGet → Does h cs (hash_read by_number (plain_layout s) f args l) d → Does h cs (effect by_number r (laid w n s) f args l) d
  unfolding effect
  get_done d e j = does_as h cs _ _ d (as_plain (λ layout. hash_read by_number layout f args l) (read_elements f args l) w n s ∙ ap (λ q. effect by_number q (laid w n s) f args l) (sym e)) j

  pub bound_done : (d : Done) → r ≡ role.HashBoundp → Does h cs (hash_bound by_number (plain_layout s) f args l) d → Does h cs (effect by_number r (laid w n s) f args l) d
  unfolding effect
  bound_done d e j = does_as h cs _ _ d (as_plain (λ layout. hash_bound by_number layout f args l) (bound_elements f args l) w n s ∙ ap (λ q. effect by_number q (laid w n s) f args l) (sym e)) j

  pub both_done : (d : Done) → r ≡ role.HashGetBound → Does h cs (hash_looked_up by_number (plain_layout s) f args l) d → Does h cs (effect by_number r (laid w n s) f args l) d
  unfolding effect
  both_done d e j = does_as h cs _ _ d (as_plain (λ layout. hash_looked_up by_number layout f args l) (both_elements f args l) w n s ∙ ap (λ q. effect by_number q (laid w n s) f args l) (sym e)) j

  pub put_done : (d : Done) → r ≡ role.HashPut → Does h cs (hash_put by_number (plain_layout s) f args l) d → Does h cs (effect by_number r (laid w n s) f args l) d
  unfolding effect
  put_done d e j = does_as h cs _ _ d (as_plain (λ layout. hash_put by_number layout f args l) (put_elements f args l) w n s ∙ ap (λ q. effect by_number q (laid w n s) f args l) (sym e)) j

  pub remove_done : (d : Done) → r ≡ role.HashRem → Does h cs (hash_removed by_number (plain_layout s) f args l) d → Does h cs (effect by_number r (laid w n s) f args l) d
  unfolding effect
  remove_done d e j = does_as h cs _ _ d (as_plain (λ layout. hash_removed by_number layout f args l) (removed_elements f args l) w n s ∙ ap (λ q. effect by_number q (laid w n s) f args l) (sym e)) j

  pub length_done : (d : Done) → r ≡ role.Length → Does h cs (measured by_number f l) d → Does h cs (effect by_number r (laid w n s) f args l) d
  unfolding effect
  length_done d e j = does_as h cs _ _ d (ap (λ q. effect by_number q (laid w n s) f args l) (sym e)) j

  pub count_done : (d : Done) → r ≡ role.HashCount → Does h cs (hash_counted by_number f l) d → Does h cs (effect by_number r (laid w n s) f args l) d
  unfolding effect
  count_done d e j = does_as h cs _ _ d (ap (λ q. effect by_number q (laid w n s) f args l) (sym e)) j

  pub clear_done : (d : Done) → r ≡ role.HashClear → Does h cs (hash_cleared by_number f l) d → Does h cs (effect by_number r (laid w n s) f args l) d
  unfolding effect
  clear_done d e j = does_as h cs _ _ d (ap (λ q. effect by_number q (laid w n s) f args l) (sym e)) j

pub call_done : (h : Objects) (cs : List Cell) (r : Role) (made layout : Layout ℕ) (f g : ℕ) (args : List (Object ℕ)) (l : StobjList ℕ) (d : Done) → made ≡ layout → f ≡ g
    → Does h cs (effect by_number r made f args l) d → Does h cs (effect by_number r layout g args l) d
call_done h cs r made layout f g args l d e i j = does_as h cs _ _ d (ap (λ q. effect by_number r q f args l) e ∙ ap (λ q. effect by_number r layout q args l) i) j
