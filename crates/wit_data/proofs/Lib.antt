mod PartsRead
