pub mod NotedChoices
