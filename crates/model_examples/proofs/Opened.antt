-- All definitions that a worked scenario computes with.
use Rattle.net_model.specs.Site.{outgoing_lanes}
use Rattle.net_model.specs.Routes.{walks, route_from, route}
use Rattle.qkd_base.specs.LaneBytes.{lane_octets}
use Rattle.net_model.specs.OctetSequence.{octets_from, first_blocks}
use Rattle.net_model.specs.World.{first}
use Rattle.net_model.specs.Needed.{is_needed, masked, view_of}
use Rattle.net_model.specs.Records.{block_taken, apply_record, replay}
use Rattle.net_model.specs.Journal.{spelled_after, body_len, checkpoint_records, batches_of, checkpoint_need, checkpoint_place, is_checkpoint_due, checkpointed}
use Rattle.net_model.specs.Fold.{view_record, view_records, view_after, view_restarted, recovered_view}
use Rattle.net_model.specs.Decision.{last_count}
use Rattle.net_model.specs.Window.{acknowledge, repeats_on, complete_one, complete}
use Rattle.net_model.specs.Pools.{pool, unhanded, fill, enc, dec, status}
use Rattle.net_model.specs.Groups.{unhanded_group, group, fill_group, enc_group}
use Rattle.net_model.specs.Streams.{open_stream, join_stream, get_chunk, close_stream, feed}
use Rattle.net_model.specs.Relay.{owed, receive_fact, receive_ack}
use Rattle.net_model.specs.Plan.{wanted_on, orders_on, plan}
use Rattle.net_model.specs.Show.{show}
use Rattle.net_model.specs.Events.{is_valid_event}
use Rattle.net_model.specs.Decide.{decide, random_need}
use Rattle.net_model.specs.Handle.{commit, stopped, perform, handle, take_block}
use Rattle.net_model.specs.Frames.{allocate, transmit, deliver_frame, deliver, tampered, flip}
use Rattle.net_model.specs.Start.{restarted, start, may_recover}
use Rattle.net_model.specs.Step.{step, is_enabled, run, outcomes, is_run}
use Rattle.net_model.specs.Ledger.{ledger}
use Rattle.net_model.specs.Tick.{tick_order}
use Rattle.model_examples.specs.Follow.{follow, followed}
use Rattle.net_model.specs.BlockOrder.{block_actions}
use Rattle.net_model.specs.Deliveries.{deliveries}
use Rattle.net_model.specs.Faults.{disk_faults, entropy_faults, device_faults, wire_faults, armings}
use Rattle.run_model.specs.Script.{then_comes}
use Rattle.run_model.specs.Turn.{turn_of}
use Rattle.run_model.specs.Lines.{blocks, emitted, ticked, settle}
use Rattle.run_model.specs.Play.{play}
use Rattle.run_model.specs.Works.{block_run, asked_by, done_from}
use Rattle.run_model.specs.Block.{block_items}
use Rattle.run_model.specs.Report.{perform as perform_task, report, actions_of}
use Rattle.run_model.specs.Left.{wire_octets, batches_made, to_masters, to_slaves}
use Rattle.run_model.specs.Load.{load_entries}
use Rattle.model_examples.specs.Row.{answered, done_by, ran_from}

unfoldable pub opened : Unit {0}
unfolding outgoing_lanes walks route_from route octets_from first_blocks lane_octets first is_needed masked view_of block_taken apply_record replay spelled_after body_len checkpoint_records batches_of checkpoint_need checkpoint_place is_checkpoint_due checkpointed view_record view_records view_after view_restarted recovered_view last_count acknowledge repeats_on complete_one complete pool unhanded fill enc dec status unhanded_group group fill_group enc_group open_stream join_stream get_chunk close_stream feed owed receive_fact receive_ack wanted_on orders_on plan show is_valid_event decide random_need commit stopped perform handle take_block allocate transmit deliver_frame deliver tampered flip restarted start may_recover step is_enabled run outcomes is_run ledger tick_order block_actions deliveries disk_faults entropy_faults device_faults wire_faults armings then_comes turn_of blocks emitted ticked settle play block_run asked_by done_from block_items perform_task report actions_of wire_octets batches_made to_masters to_slaves load_entries answered done_by ran_from follow followed
opened = tt
