mod MapSteps
