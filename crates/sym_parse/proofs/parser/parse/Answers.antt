-- The answer is that of the function, and so that of the relation.
use Rattle.sym_parse.proofs.Answering.{accepted-by, one-by, complete-by, lawful-by, lexical-by, first-by}
use Rattle.sym_parse.proofs.Expecting.{expected-by}
use Rattle.sym_parse.proofs.Limiting.{limited-by}
use Rattle.sym_parse.proofs.Refusing.{unexpected-by, passed-by}
use Rattle.sym_parse.proofs.parser.parse.Goals as goal

pub returns-clause-accepted : goal.returns-clause-accepted
returns-clause-accepted c = accepted-by c.args.bytes.now c.parse_text.result c.parse_text.ensures

pub returns-clause-one : goal.returns-clause-one
returns-clause-one c = one-by c.args.bytes.now c.parse_text.result c.parse_text.ensures

pub returns-clause-complete : goal.returns-clause-complete
returns-clause-complete c = complete-by c.args.bytes.now c.parse_text.result c.parse_text.ensures

pub returns-clause-fault : goal.returns-clause-fault
returns-clause-fault c = lexical-by c.args.bytes.now c.parse_text.result c.parse_text.ensures

pub returns-clause-faults_first : goal.returns-clause-faults_first
returns-clause-faults_first c = first-by c.args.bytes.now c.parse_text.result c.parse_text.ensures

pub returns-clause-lawful : goal.returns-clause-lawful
returns-clause-lawful c = lawful-by c.args.bytes.now c.parse_text.result c.parse_text.ensures

pub returns-clause-unexpected : goal.returns-clause-unexpected
returns-clause-unexpected c = unexpected-by c.args.bytes.now c.parse_text.result c.parse_text.ensures

pub returns-clause-passed : goal.returns-clause-passed
returns-clause-passed c = passed-by c.args.bytes.now c.parse_text.result c.parse_text.ensures

pub returns-clause-expected : goal.returns-clause-expected
returns-clause-expected c = expected-by c.args.bytes.now c.parse_text.result c.parse_text.ensures

pub returns-clause-limited : goal.returns-clause-limited
returns-clause-limited c = limited-by c.args.bytes.now c.parse_text.result c.parse_text.ensures
