use Rattle.json_read.proofs.Readings.{faults_byte, faults_end}
use Rattle.std.proofs.Common.{refl}
use Rattle.json_read.proofs.scan.fault_at.Goals as goal

pub returns-then-at-bytes : goal.returns-then-at-bytes
returns-then-at-bytes c = faults_byte c.args.bytes.now c.args.at c.if-at-bytes.true

pub returns-else-at-bytes : goal.returns-else-at-bytes
returns-else-at-bytes c = faults_end c.args.bytes.now c.args.at _ c.if-at-bytes.false refl
