use Rattle.specification.proofs.worked.worked_recordings.Goals as goal
use Rattle.specification.proofs.rows.Recordings as row

pub returns-clause-empty_recording : goal.returns-clause-empty_recording
returns-clause-empty_recording c = row.empty_recording

pub returns-clause-insert_delete_read : goal.returns-clause-insert_delete_read
returns-clause-insert_delete_read c = row.insert_delete_read

pub returns-clause-three_way_cycle : goal.returns-clause-three_way_cycle
returns-clause-three_way_cycle c = row.three_way_cycle

pub returns-clause-opposite_pair : goal.returns-clause-opposite_pair
returns-clause-opposite_pair c = row.opposite_pair

pub returns-clause-ring_of_four : goal.returns-clause-ring_of_four
returns-clause-ring_of_four c = row.ring_of_four

pub returns-clause-read_shows_deleted : goal.returns-clause-read_shows_deleted
returns-clause-read_shows_deleted c = row.read_shows_deleted

pub returns-clause-repeated_name : goal.returns-clause-repeated_name
returns-clause-repeated_name c = row.repeated_name

pub returns-clause-chain_of_receipts : goal.returns-clause-chain_of_receipts
returns-clause-chain_of_receipts c = row.chain_of_receipts

pub returns-clause-insert_past_the_end : goal.returns-clause-insert_past_the_end
returns-clause-insert_past_the_end c = row.insert_past_the_end

pub returns-clause-deleted_before_inserted : goal.returns-clause-deleted_before_inserted
returns-clause-deleted_before_inserted c = row.deleted_before_inserted

pub returns-clause-doubled_name : goal.returns-clause-doubled_name
returns-clause-doubled_name c = row.doubled_name

pub returns-clause-receipts : goal.returns-clause-receipts
returns-clause-receipts c = row.receipts

pub returns-clause-least_of_several_orders : goal.returns-clause-least_of_several_orders
returns-clause-least_of_several_orders c = row.least_of_several_orders

pub returns-clause-views : goal.returns-clause-views
returns-clause-views c = row.views
