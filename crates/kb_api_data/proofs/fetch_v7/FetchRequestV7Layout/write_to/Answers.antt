use Rattle.kb_wire.specs.Sunk.{adds_both, adds_stop}
use Rattle.kb_api_data.specs.FetchSession.{fetch_request_v7}
use Rattle.kb_api_data.proofs.fetch_v7.FetchRequestV7Layout.write_to.Goals as goal

pub returns-in_err-write_to : goal.returns-in_err-write_to
unfolding fetch_request_v7
returns-in_err-write_to g c = adds_stop _ c.in_err-write_to.ensures c.from_residual.ensures.0

pub returns-in_err-write_to-2 : goal.returns-in_err-write_to-2
unfolding fetch_request_v7
returns-in_err-write_to-2 g c = adds_both c.in_ok-write_to.ensures (adds_stop _ c.in_err-write_to-2.ensures c.from_residual-in_err-write_to-2.ensures.0)

pub returns-in_err-write_to-3 : goal.returns-in_err-write_to-3
unfolding fetch_request_v7
returns-in_err-write_to-3 g c = adds_both c.in_ok-write_to.ensures (adds_both c.in_ok-write_to-2.ensures (adds_stop _ c.in_err-write_to-3.ensures c.from_residual-in_err-write_to-3.ensures.0))

pub returns-in_err-write_to-4 : goal.returns-in_err-write_to-4
unfolding fetch_request_v7
returns-in_err-write_to-4 g c = adds_both c.in_ok-write_to.ensures (adds_both c.in_ok-write_to-2.ensures (adds_both c.in_ok-write_to-3.ensures (adds_stop _ c.in_err-write_to-4.ensures c.from_residual-in_err-write_to-4.ensures.0)))

pub returns-in_err-write_to-5 : goal.returns-in_err-write_to-5
unfolding fetch_request_v7
returns-in_err-write_to-5 g c = adds_both c.in_ok-write_to.ensures (adds_both c.in_ok-write_to-2.ensures (adds_both c.in_ok-write_to-3.ensures (adds_both c.in_ok-write_to-4.ensures (adds_stop _ c.in_err-write_to-5.ensures c.from_residual-in_err-write_to-5.ensures.0))))

pub returns-in_err-write_to-6 : goal.returns-in_err-write_to-6
unfolding fetch_request_v7
returns-in_err-write_to-6 g c = adds_both c.in_ok-write_to.ensures (adds_both c.in_ok-write_to-2.ensures (adds_both c.in_ok-write_to-3.ensures (adds_both c.in_ok-write_to-4.ensures (adds_both c.in_ok-write_to-5.ensures (adds_stop _ c.in_err-write_to-6.ensures c.from_residual-in_err-write_to-6.ensures.0)))))

pub returns-in_err-write_to-7 : goal.returns-in_err-write_to-7
unfolding fetch_request_v7
returns-in_err-write_to-7 g c = adds_both c.in_ok-write_to.ensures (adds_both c.in_ok-write_to-2.ensures (adds_both c.in_ok-write_to-3.ensures (adds_both c.in_ok-write_to-4.ensures (adds_both c.in_ok-write_to-5.ensures (adds_both c.in_ok-write_to-6.ensures (adds_stop _ c.in_err-write_to-7.ensures c.from_residual-in_err-write_to-7.ensures.0))))))

pub returns-in_err-write_to-8 : goal.returns-in_err-write_to-8
unfolding fetch_request_v7
returns-in_err-write_to-8 g c = adds_both c.in_ok-write_to.ensures (adds_both c.in_ok-write_to-2.ensures (adds_both c.in_ok-write_to-3.ensures (adds_both c.in_ok-write_to-4.ensures (adds_both c.in_ok-write_to-5.ensures (adds_both c.in_ok-write_to-6.ensures (adds_both c.in_ok-write_to-7.ensures (adds_stop _ c.in_err-write_to-8.ensures c.from_residual-in_err-write_to-8.ensures.0)))))))

pub returns : goal.returns
unfolding fetch_request_v7
returns g c = adds_both c.in_ok-write_to.ensures (adds_both c.in_ok-write_to-2.ensures (adds_both c.in_ok-write_to-3.ensures (adds_both c.in_ok-write_to-4.ensures (adds_both c.in_ok-write_to-5.ensures (adds_both c.in_ok-write_to-6.ensures (adds_both c.in_ok-write_to-7.ensures (adds_both c.in_ok-write_to-8.ensures c.write_to-9.ensures)))))))
