-- A producer is given an id (Kafka protocol guide, "The Messages: InitProducerId").
use Rattle.std.specs.Prelude.{ℤ, pos, negsuc, Result, Ok, Err, Some, None}
use Rattle.kb_api_data.specs.declared.init_producer_id.InitProducerIdRequest.{InitProducerIdRequest}
use Rattle.kb_api_data.specs.declared.init_producer_id.InitProducerIdReply.{InitProducerIdReply}
use Rattle.kb_wire.specs.ErrorCode.{code_of as code}
use Rattle.kb_wire.specs.declared.error_code.ErrorCode.TheVariants as codes
use Rattle.kb_topics.specs.CatalogFault.{code_of as fault_code}
use Rattle.kb_topics.specs.declared.fault.CatalogFault.{CatalogFault}
use Rattle.kb_tenant_state.specs.Calls.{issue}
use Rattle.kb_tenant_state.specs.World.{World}

-- no id and no epoch
abbrev pub id_refused : ℤ → InitProducerIdReply
id_refused error = record {
  throttle_time_ms = pos 0;
  error_code = error;
  producer_id = negsuc 0;
  producer_epoch = negsuc 0;
}

-- an id begins with epoch 0
abbrev pub id_answered : Result ℤ CatalogFault → InitProducerIdReply
id_answered (Ok id) = record {
  throttle_time_ms = pos 0;
  error_code = code codes.None;
  producer_id = id;
  producer_epoch = pos 0;
}
id_answered (Err fault) = id_refused (fault_code fault)

abbrev pub id_given : World × Result ℤ CatalogFault → World × InitProducerIdReply
id_given r = (r.0, id_answered r.1)

-- No id is given out for transactions; else it is the tenant's next one.
abbrev pub init_producer_id : World → InitProducerIdRequest → World × InitProducerIdReply
init_producer_id w r = elim r.transactional_id [
  | None ↦ id_given (issue w)
  | Some id ↦ (w, id_refused (code codes.InvalidRequest))
]
