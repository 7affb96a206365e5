-- The laws of definitions.
use Rattle.std.proofs.Common.{◌++◌}
use Rattle.model_terms.specs.Worlds.{World, Descriptor, AbstractDescriptor}
use Rattle.model_stobjs.specs.Answers.{EventResult, Grants, Refuses, Halts}
use Rattle.model_stobjs.specs.Descriptors.{descriptor_read}
use Rattle.model_stobjs.specs.Abstracts.{abstract_read}
use Rattle.model_events.specs.Macros.{macro_read}
use Rattle.model_events.specs.Constants.{constant_read}
use Rattle.model_events.specs.Functions.{functions_read}
use Rattle.model_made.specs.Lawful.{IsLawfulWorld}
use Rattle.model_made.specs.Laws.{StaysLawful, StaysLawfulWith, StaysLawfulAbstractly, DefinitionsStayLawful}
use Rattle.model_made.proofs.WorldLemmas.{EachDefinition, each_found}
use Rattle.model_made.proofs.GrowthLemmas.{grows}
use Rattle.model_made.proofs.OpeningLemmas.{IsPlain, plain_ready, plain_admitted}
use Rattle.model_made.proofs.EventLemmas.{IfGrants, plain_brings, macro_plain, constant_plain}
use Rattle.model_made.proofs.FunctionLemmas.{LawfulWith, functions_stay}
use Rattle.model_made.proofs.DescriptorLemmas.{IsNew, descriptor_new}
use Rattle.model_made.proofs.StobjLemmas.{object_lawful}
use Rattle.model_made.proofs.ExportLemmas.{IsAccepted, abstract_lawful, abstract_accepted}

plain_stays : (w : World) → IsLawfulWorld w → (r : EventResult World) → IfGrants (EachDefinition IsPlain) r → StaysLawful w r
plain_stays w l (Grants new p) h = grows w new l (plain_brings w new h) (λ x d n e. plain_ready (w ++ new) d (each_found IsPlain new h x d e)) (λ x d n e. plain_admitted d (each_found IsPlain new h x d e))
plain_stays w l (Refuses r p) h = tt
plain_stays w l (Halts stop inside p) h = tt

granted_stays : (w : World) (r : EventResult World) → IfGrants (LawfulWith w) r → StaysLawful w r
granted_stays w (Grants new p) h = h.lawful
granted_stays w (Refuses r p) h = tt
granted_stays w (Halts stop inside p) h = tt

object_stays : (w : World) → IsLawfulWorld w → (r : EventResult Descriptor) → IfGrants (IsNew w) r → StaysLawfulWith w r
object_stays w l (Grants d p) h = object_lawful w l d h
object_stays w l (Refuses r p) h = tt
object_stays w l (Halts stop inside p) h = tt

abstract_stays : (w : World) → IsLawfulWorld w → (r : EventResult AbstractDescriptor) → IfGrants (IsAccepted w) r → StaysLawfulAbstractly w r
abstract_stays w l (Grants d p) h = abstract_lawful w l d h
abstract_stays w l (Refuses r p) h = tt
abstract_stays w l (Halts stop inside p) h = tt

pub definitions_stay_lawful : DefinitionsStayLawful
definitions_stay_lawful = record {
  macros = λ x l d p. plain_stays x.world l (macro_read x d p) (macro_plain x d p);
  constants = λ x l d p. plain_stays x.world l (constant_read x d p) (constant_plain x d p);
  functions = λ x l head d p. granted_stays x.world (functions_read x head d p) (functions_stay x l head d p);
  abstract_stobjs = λ w l packages d p. abstract_stays w l (abstract_read w packages d p) (abstract_accepted w packages d p);
  stobjs = λ w l packages d p. object_stays w l (descriptor_read w packages d p) (descriptor_new w packages d p);
}
