-- What is taken or given, one after another.
use Rattle.std.specs.Prelude.{◌≡◌, ℕ, List, [], ◌∷◌, ◌++◌, map, refl}
use Rattle.std.proofs.Common.{ap, sym, ◌∙◌}
use Rattle.std.proofs.lemmas.List.{append-nil, append_assoc, map-append}
use Rattle.acl_terms.specs.declared.signature.Out.{Out}
use Rattle.acl_terms.specs.Signatures.{seen_out}
use Rattle.acl_generated.specs.declared.tasks.Slot.{Slot}
use Rattle.acl_generated.specs.Tasks.{seen_slot}

pub outs_start : (x y : ℕ) (outs : List Out) (slots : List Slot) → outs ≡ [] → map seen_out outs ++ map (seen_slot x y) slots ≡ map (seen_slot x y) slots
outs_start x y outs slots e = rw e refl

pub outs_more : (x y : ℕ) (outs more : List Out) (o : Out) (s : Slot) (rest others slots : List Slot) → map seen_out outs ++ map (seen_slot x y) rest ≡ map (seen_slot x y) slots → rest ≡ s ∷ others
    → seen_out o ≡ seen_slot x y s → more ≡ outs ++ o ∷ [] → map seen_out more ++ map (seen_slot x y) others ≡ map (seen_slot x y) slots
outs_more x y outs more o s rest others slots all split is pushed =
    ap (λ os. map seen_out os ++ map (seen_slot x y) others) pushed
    ∙ (ap (λ os. os ++ map (seen_slot x y) others) (map-append seen_out outs (o ∷ []))
    ∙ (append_assoc (map seen_out outs) (seen_out o ∷ []) (map (seen_slot x y) others)
    ∙ (ap (λ r. map seen_out outs ++ r ∷ map (seen_slot x y) others) is ∙ (ap (λ ss. map seen_out outs ++ map (seen_slot x y) ss) (sym split) ∙ all))))

pub outs_end : (x y : ℕ) (outs : List Out) (rest slots : List Slot) → map seen_out outs ++ map (seen_slot x y) rest ≡ map (seen_slot x y) slots → rest ≡ [] → map seen_out outs ≡ map (seen_slot x y) slots
outs_end x y outs rest slots all e = sym (append-nil (map seen_out outs)) ∙ (ap (λ ss. map seen_out outs ++ map (seen_slot x y) ss) (sym e) ∙ all)
