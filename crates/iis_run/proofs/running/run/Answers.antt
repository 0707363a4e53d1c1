use Rattle.iis_run.specs.Words.{request_of}
use Rattle.iis_run.proofs.Counts.{plan_kept, plan_quiet}
use Rattle.iis_run.proofs.Statuses.{planned_run, usage_clause, fetch_stop_clause, write_fault_clause, model_clause, alone_clause, text_clause, accepted_clause, unsettled_clause, refuted_clause, borne_out_clause, read_back_clause, bounds_clause, settles_clause}
use Rattle.iis_run.proofs.running.run.Goals as goal

pub returns : goal.returns
returns g c =
    let file = g.S.Shelf.file in
    let fetches = g.S.Shelf.faults in
    let puts = g.W.Sink.faults in
    let taken = g.W.Sink.taken in
    let shelf = c.args.shelf.now in
    let shelf' = c.decide-plan.new.shelf in
    let out = c.args.out.now in
    let out' = c.follow.new.out in
    let request = request_of c.args.words.now in
    let run = planned_run file fetches puts taken shelf shelf' out out' request c.follow.result c.decide-plan.result c.decide-plan.ensures.ready c.decide-plan.ensures.planned c.follow.ensures in
    record {
      usage = usage_clause file fetches puts taken shelf shelf' out out' request c.follow.result run;
      fetch_stop = fetch_stop_clause file fetches puts taken shelf shelf' out out' request c.follow.result run;
      faulted = plan_quiet puts taken out out' (fetches shelf) (fetches shelf') c.decide-plan.result c.follow.result c.follow.ensures c.decide-plan.ensures.quiet;
      write_fault = write_fault_clause file fetches puts taken shelf shelf' out out' request c.follow.result run;
      model_refused = model_clause file fetches puts taken shelf shelf' out out' request c.follow.result run;
      model_alone = alone_clause file fetches puts taken shelf shelf' out out' request c.follow.result run;
      text_refused = text_clause file fetches puts taken shelf shelf' out out' request c.follow.result run;
      refuted = refuted_clause file fetches puts taken shelf shelf' out out' request c.follow.result run;
      accepted = accepted_clause file fetches puts taken shelf shelf' out out' request c.follow.result run;
      unsettled = unsettled_clause file fetches puts taken shelf shelf' out out' request c.follow.result run;
      borne_out = borne_out_clause file fetches puts taken shelf shelf' out out' c.accepted_reports_are_true.ensures request c.follow.result run;
      read_back = read_back_clause file fetches puts taken shelf shelf' out out' c.right_reports_are_accepted.ensures request c.follow.result run;
      statuses = bounds_clause file fetches puts taken shelf shelf' out out' request c.follow.result run;
      settles = settles_clause file fetches puts taken shelf shelf' out out' request c.follow.result run;
      fetch_counts = c.decide-plan.ensures.counts;
      put_count = plan_kept puts taken out out' c.decide-plan.result c.follow.result c.follow.ensures;
      files = c.decide-plan.ensures.files;
      ran = run;
    }
