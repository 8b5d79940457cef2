mod BodyVerdicts
